-- The run of three exchanges, in which each number is sent, echoed and taken.
use Rattle.std.proofs.Common.{◌≡◌, ℕ, zero, suc, ◌<◌, ◌≤◌, inl, inr, Bool, false, List, [], ◌∷◌, length, Some, slice_get, refl, subst, arith}
use Rattle.std.proofs.lemmas.Option.{same_Some, none-some}
use Rattle.process_network.specs.CalmRun.{Move}
use Rattle.process_network.specs.CalmRun.Move.{HubMoves, LeafMoves}
use Rattle.process_network.specs.PacketProcesses.{IsDecided}
use Rattle.process_network.specs.PacketStar.{PacketLink, PacketWorld, packets_start, packets_all, packets_after, AllReadable, IsOver, LeafEndsBySending}
use Rattle.relay_network.specs.RelayPackets.{RelayOutlook, IsPassed, AllPass, relayed_start}
use Rattle.relay_network.specs.RelayPackets.RelayOutlook.{AwaitsHub, AwaitsLeaf}
use Rattle.echo_star.specs.Relayed.{awaited_side, echo_relays}
use Rattle.echo_star.specs.Echoes.{Count, first_message, echo_ends, fresh_count, three_exchanges}

-- Two bytes are a message whatever comes behind them.
pub decided : IsDecided first_message
decided [] ys r e = absurd (none-some r e)
decided (a ∷ []) ys r e = absurd (none-some r e)
decided (a ∷ b ∷ xs) ys r e = (
  subst (λ (v : (ℕ × ℕ) × ℕ). 0 < v.1) (same_Some _ r e) (omega arith),
  subst (λ (v : (ℕ × ℕ) × ℕ). v.1 ≤ length (a ∷ b ∷ xs)) (same_Some _ r e) (omega arith),
  e,
)

-- Any message is read back as it was written.
pub all_readable : (c : PacketWorld Count ℕ (ℕ × ℕ)) (ms : List Move) → AllReadable echo_ends c ms
all_readable c [] = tt
all_readable c (m ∷ ms) = ((λ p q x rest at waiting xs. refl), all_readable (packets_after echo_ends c m) ms)

abbrev pub start : PacketWorld Count ℕ (ℕ × ℕ)
start = packets_start (fresh_count 3) (0 ∷ 0 ∷ [])

-- What holds of the two members of a list holds of each.
of_two : {A : Type 0} (P : A → Type 0) (a b : A) → P a → P b → (p : ℕ) (q : A) → slice_get (a ∷ b ∷ []) p ≡ Some q → P q
of_two P a b x y zero q e = subst P (same_Some a q e) x
of_two P a b x y (suc zero) q e = subst P (same_Some b q e) y
of_two P a b x y (suc (suc p)) q e = absurd (none-some q e)

pub over : IsOver echo_ends (packets_all echo_ends start three_exchanges)
over = record {
  hub = refl;
  leaf = λ p q e. inl refl;
  out = λ p q e. of_two (λ (l : PacketLink ℕ (ℕ × ℕ)). l.out_waiting ≡ []) _ _ refl refl p q e;
  back = λ p q e. of_two (λ (l : PacketLink ℕ (ℕ × ℕ)). l.back_waiting ≡ []) _ _ refl refl p q e;
}

-- The moves before the last turn of each echo.
abbrev one_exchange : List Move
one_exchange = HubMoves ∷ LeafMoves 0 ∷ HubMoves ∷ []

pub ends : (p : ℕ) → p < 2 → LeafEndsBySending echo_ends start three_exchanges p
ends zero l = inr (one_exchange, all_readable start one_exchange, refl, (omega arith))
ends (suc zero) l = inr (one_exchange, all_readable start one_exchange, refl, (omega arith))
ends (suc (suc p)) l = absurd (omega arith)

-- With relays: each message is passed on.

-- The relay of the first of two links, or of the second, awaits this side.
passed : (side : RelayOutlook) (a q : PacketLink ℕ (ℕ × ℕ) × Bool) (m : ℕ × ℕ) → Some a ≡ Some q → awaited_side a.1 ≡ side → IsPassed echo_ends echo_relays q.1 side m
passed side a q m s e = subst (λ (q : PacketLink ℕ (ℕ × ℕ) × Bool). IsPassed echo_ends echo_relays q.1 side m) (same_Some a q s) (record { awaited = e; passed = refl; read = λ xs. refl })

pub all_pass : AllPass echo_ends echo_relays (relayed_start (fresh_count 3) false (0 ∷ 0 ∷ [])) three_exchanges
all_pass = (
  (λ q s. passed AwaitsHub _ q _ s refl),
  (
    (λ q m rest s b xs. refl),
    (
      (λ q m rest s b. passed AwaitsLeaf _ q m s refl),
      (
        (λ q s. passed AwaitsHub _ q _ s refl),
        (
          (λ q m rest s b xs. refl),
          (
            (λ q m rest s b. passed AwaitsLeaf _ q m s refl),
            (
              (λ q s. passed AwaitsHub _ q _ s refl),
              (
                (λ q m rest s b xs. refl),
                (
                  (λ q m rest s b. passed AwaitsLeaf _ q m s refl),
                  tt,
                ),
              ),
            ),
          ),
        ),
      ),
    ),
  ),
)
