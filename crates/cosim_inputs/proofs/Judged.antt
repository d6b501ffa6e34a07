-- The judge of texts gives what they are judged as.
use Rattle.std.specs.Prelude.{IfOk, IfErr, MatchResult}
use Rattle.std.proofs.Common.{ℕ, ◌≡◌, ◌⊎◌, Bool, true, false, List, Option, Some, None, Result, Ok, Err, refl, ap, sym, ◌∙◌, subst, inl, inr}
use Rattle.std.specs.Str.{is_utf8}
use Rattle.std.proofs.lemmas.Str.{IsUtf8-from_is_utf8, is_utf8-from_IsUtf8}
use Rattle.toml.specs.Data.{Members}
use Rattle.toml.specs.Parse.{parse_document}
use Rattle.cos_config.specs.declared.config.Config.{Config}
use Rattle.cos_config.specs.declared.config.Sockets.{Sockets}
use Rattle.cos_config.specs.declared.fault.ConfigFault.{ConfigFault}
use Rattle.cos_config.specs.declared.fault.ConfigFault.TheVariants.{Text, NoMemory}
use Rattle.cos_config.specs.First.{Found}
use Rattle.cos_config.specs.Judged.{IsToml}
use Rattle.cos_config.specs.Reading.{Reads}
use Rattle.cos_config.specs.Rules.{config_found}
use Rattle.cos_config.specs.Settings.{config_of}
use Rattle.cosim_inputs.specs.Judging.{by_rules, judged_as, judged}
use Rattle.cosim_inputs.specs.Limits.{IsWithinLimits, HasServed}
use Rattle.cosim_inputs.proofs.Limiting.{kept-within, kept-served}

abbrev pub Gives : Result Config ConfigFault → Result Config ConfigFault → Type 0
Gives judged r = MatchResult r (λ c. judged ≡ Ok c) (λ f. (f ≡ NoMemory) ⊎ (judged ≡ Err f))

ruled : (found : Found) (c : Config) (r : Result Config ConfigFault) → Reads Config found c r → Gives (by_rules found c) r
ruled found c (Ok v) (none, is) = ap (λ x. by_rules x c) none ∙ ap (λ x. Ok x) (sym is)
ruled found c (Err f) (inl e) = inl e
ruled found c (Err f) (inr e) = inr (ap (λ x. by_rules x c) e)

abbrev pub no_toml : Result Config ConfigFault
no_toml = Err Text

-- no table's TOML
none-there : (bytes : List ℕ) (r : Result Config ConfigFault) → ((t : Members) → IsToml bytes t → ⊥) → IfOk r (λ c. (t : Members) × IsToml bytes t)
    → (((t : Members) → IsToml bytes t → ⊥) → IfErr r (λ f. (f ≡ NoMemory) ⊎ (f ≡ Text))) → Gives no_toml r
none-there bytes (Ok c) none ok other = absurd (none ok.0 ok.1)
none-there bytes (Err f) none ok other = by (other none)
  where
    by : (f ≡ NoMemory) ⊎ (f ≡ Text) → (f ≡ NoMemory) ⊎ (no_toml ≡ Err f)
    by (inl e) = inl e
    by (inr e) = inr (ap (λ x. Err x) (sym e))

pub judges : (sockets : Sockets) (bytes : List ℕ) (r : Result Config ConfigFault) → ((t : Members) → IsToml bytes t → Reads Config (config_found sockets t) (config_of t) r)
    → IfOk r (λ c. (t : Members) × IsToml bytes t) → (((t : Members) → IsToml bytes t → ⊥) → IfErr r (λ f. (f ≡ NoMemory) ⊎ (f ≡ Text))) → Gives (judged sockets bytes) r
judges sockets bytes r toml ok other = by (is_utf8 bytes) (parse_document bytes) refl refl
  where
    by : (b : Bool) (o : Option Members) → is_utf8 bytes ≡ b → parse_document bytes ≡ o → Gives (judged_as sockets b o) r
    by true (Some t) utf8 parsed = ruled (config_found sockets t) (config_of t) r (toml t (record { utf8 = IsUtf8-from_is_utf8 bytes utf8; parsed = parsed }))
    by true None utf8 parsed = none-there bytes r (λ t is. let said = is.parsed in (cc (said, parsed))) ok other
    by false o utf8 parsed = none-there bytes r (λ t is. let said = is_utf8-from_IsUtf8 bytes is.utf8 in (cc (said, utf8))) ok other

-- what is judged a configuration is within limits
pub judged-within : (sockets : Sockets) (bytes : List ℕ) (r : Result Config ConfigFault) → ((t : Members) → IsToml bytes t → Reads Config (config_found sockets t) (config_of t) r)
    → IfOk r (λ c. (t : Members) × IsToml bytes t) → IfOk r IsWithinLimits
judged-within sockets bytes (Ok c) toml (t, is) = let read = toml t is in subst IsWithinLimits (sym read.1) (kept-within sockets t read.0)
judged-within sockets bytes (Err f) toml ok = tt

-- and has the port that is to be served
pub judged-served : (sockets : Sockets) (bytes : List ℕ) (r : Result Config ConfigFault) → ((t : Members) → IsToml bytes t → Reads Config (config_found sockets t) (config_of t) r)
    → IfOk r (λ c. (t : Members) × IsToml bytes t) → IfOk r (HasServed sockets)
judged-served sockets bytes (Ok c) toml (t, is) = let read = toml t is in subst (HasServed sockets) (sym read.1) (kept-served sockets t read.0)
judged-served sockets bytes (Err f) toml ok = tt

pub gives-ok : (j r : Result Config ConfigFault) → Gives j r → IfOk r (λ c. j ≡ Ok c)
gives-ok j (Ok c) is = is
gives-ok j (Err f) is = tt

pub gives-err : (j r : Result Config ConfigFault) → Gives j r → IfErr r (λ f. (f ≡ NoMemory) ⊎ (j ≡ Err f))
gives-err j (Ok c) is = tt
gives-err j (Err f) is = is
