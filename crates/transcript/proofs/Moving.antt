use Rattle.std.specs.Prelude.{IfSome, MatchResult}
use Rattle.std.proofs.Common.{◌≡◌, ℕ, ◌+◌, ◌<◌, ◌≤◌, List, [], ◌++◌, length, Option, Some, None, Result, Ok, Err, IsSome, drop, refl, ap, sym, ◌∙◌, subst, append_assoc, arith, length-append}
use Rattle.std.proofs.Common.{take, get_or, ◌∷◌}
use Rattle.std.proofs.lemmas.List.{append-nil, take_more, take-append-drop}
use Rattle.std.proofs.lemmas.List.Concat.{flat_map-append}
use Rattle.std.specs.List.{flat_map}
use Rattle.std.specs.Result.{IsErr}
use Rattle.cos_base.specs.Counts.{Rises}
use Rattle.cos_base.specs.Prefixes.{IsPrefix, IsPrefix-front, IsPrefix-rest}
use Rattle.cos_base.specs.Sinks.{Puts, written, PutsSoundly}
use Rattle.cos_base.specs.declared.sinks.Failed.{Failed}
use Rattle.transcript.specs.Moves.{Passes, Moved}

-- nothing was put
pub passes-nothing : (told : Option (List ℕ)) (held : List ℕ) → Passes told told held held []
passes-nothing None held = tt
passes-nothing (Some old) held = ([], append-nil held, ap (λ l. Some l) (sym (append-nil old)))

-- one text, and then another
pub passes-both : (a b c : Option (List ℕ)) (held mid now t u : List ℕ) → Passes a b held mid t → Passes b c mid now u → Passes a c held now (t ++ u)
passes-both None b c held mid now t u first then = tt
passes-both (Some old) b c held mid now t u (p, whole, is) then =
    let second : Passes (Some (old ++ p)) c mid now u = subst (λ o. Passes o c mid now u) is then in (
      p ++ second.0,
      sym (append_assoc held t u) ∙ ap (λ l. l ++ u) whole ∙ append_assoc p mid u ∙ ap (λ l. p ++ l) second.1 ∙ sym (append_assoc p second.0 now),
      second.2 ∙ ap (λ l. Some l) (append_assoc old p second.0),
    )

-- a text that the piece took
pub passes-more : (a b : Option (List ℕ)) (held mid t u : List ℕ) → Passes a b held mid t → Passes a b held (mid ++ u) (t ++ u)
passes-more None b held mid t u first = tt
passes-more (Some old) b held mid t u (p, whole, is) = (p, sym (append_assoc held t u) ∙ ap (λ l. l ++ u) whole ∙ append_assoc p mid u, is)

prefix-more : (p q mid part rest : List ℕ) → IsPrefix part mid → q ≡ p ++ (mid ++ rest) → IsPrefix (p ++ part) q
prefix-more p q mid part rest fits is =
    let d = drop (length part) mid in
    let e : q ≡ (p ++ part) ++ (d ++ rest) =
    is ∙ ap (λ l. p ++ (l ++ rest)) (IsPrefix-rest part mid fits) ∙ ap (λ l. p ++ l) (append_assoc part d rest) ∙ sym (append_assoc p part (d ++ rest)) in
    subst (λ l. IsPrefix (p ++ part) l) (sym e) (IsPrefix-front (p ++ part) (d ++ rest))

part-of : (old p whole mid rest : List ℕ) (c : Option (List ℕ)) → whole ≡ p ++ (mid ++ rest)
    → IfSome c (λ n. (part : List ℕ) × IsPrefix part mid × (n ≡ (old ++ p) ++ part)) → IfSome c (λ n. (part : List ℕ) × IsPrefix part whole × (n ≡ old ++ part))
part-of old p whole mid rest None is h = tt
part-of old p whole mid rest (Some n) is (part, fits, same) = (p ++ part, prefix-more p whole mid part rest fits is, same ∙ append_assoc old p part)

-- a failure at one of several texts
pub passes-breaks : (a b c : Option (List ℕ)) (held mid t u rest : List ℕ) (e : Failed) → Passes a b held mid t → Puts b c (mid ++ u) (Err e) → Puts a c (held ++ (t ++ (u ++ rest))) (Err e)
passes-breaks None b c held mid t u rest e first then = tt
passes-breaks (Some old) b c held mid t u rest e (p, whole, is) then =
    let second : Puts (Some (old ++ p)) c (mid ++ u) (Err e) = subst (λ o. Puts o c (mid ++ u) (Err e)) is then in
    let all : held ++ (t ++ (u ++ rest)) ≡ p ++ ((mid ++ u) ++ rest) =
    sym (append_assoc held t (u ++ rest)) ∙ ap (λ l. l ++ (u ++ rest)) whole ∙ append_assoc p mid (u ++ rest) ∙ ap (λ l. p ++ l) (sym (append_assoc mid u rest)) in
    part-of old p (held ++ (t ++ (u ++ rest))) (mid ++ u) rest c all second

-- the same of the room that was lacking
sound-breaks : (a b : Option (List ℕ)) (before now : ℕ) (held mid t u rest : List ℕ) → IsSome a → Passes a b held mid t → now + length (written b) ≡ before + length (written a)
    → now < length (mid ++ u) → before < length (held ++ (t ++ (u ++ rest)))
sound-breaks None b before now held mid t u rest some first lowers lacks = cc some
sound-breaks (Some old) b before now held mid t u rest some (p, whole, is) lowers lacks =
    let reached : length (written b) ≡ length old + length p = ap (λ o. length (written o)) is ∙ length-append old p in
    let front : length held + length t ≡ length p + length mid = sym (length-append held t) ∙ ap length whole ∙ length-append p mid in
    let next : length (mid ++ u) ≡ length mid + length u = length-append mid u in
    let all : length (held ++ (t ++ (u ++ rest))) ≡ length held + (length t + (length u + length rest)) =
    length-append held (t ++ (u ++ rest)) ∙ ap (λ n. length held + n) (length-append t (u ++ rest) ∙ ap (λ n. length t + n) (length-append u rest)) in
    omega arith

-- a failure that is handed on
pub puts-fails : (a b : Option (List ℕ)) (t : List ℕ) (r : Result Unit Failed) → Puts a b t (Err (record {})) → IsErr r → Puts a b t r
puts-fails a b t (Err e) puts is = puts
puts-fails a b t (Ok x) puts is = cc is

module _ {S : Type 0} (told : S → Option (List ℕ)) (count room : S → ℕ) (sound : S → Type 0) where
  abbrev pub Move : S → S → List ℕ → List ℕ → List ℕ → Result Unit Failed → Type 0
  Move = Moved told count room sound

  pub moved-nothing : (s : S) (held : List ℕ) → Move s s held held [] (Ok tt)
  moved-nothing s held = record {
    counts = refl;
    tells = passes-nothing (told s) held;
    is_sound = λ is. (is, record { cause = tt; lowers = refl });
  }

  -- a failure that is handed on
  pub moved-fails : (a b : S) (held now t : List ℕ) (r : Result Unit Failed) → Move a b held now t (Err (record {})) → IsErr r → Move a b held now t r
  moved-fails a b held now t (Err e) moved is = moved
  moved-fails a b held now t (Ok x) moved is = cc is

  pub moved-more : (a b : S) (held mid t u : List ℕ) → Move a b held mid t (Ok tt) → Move a b held (mid ++ u) (t ++ u) (Ok tt)
  moved-more a b held mid t u first = record {
    counts = first.counts;
    tells = passes-more (told a) (told b) held mid t u first.tells;
    is_sound = λ is. let s = first.is_sound is in (s.0, record { cause = tt; lowers = s.1.lowers });
  }

  pub moved-both : (a b c : S) (held mid now t u : List ℕ) → Move a b held mid t (Ok tt) → Move b c mid now u (Ok tt) → Move a c held now (t ++ u) (Ok tt)
  moved-both a b c held mid now t u first then = record {
    counts = then.counts ∙ first.counts;
    tells = passes-both (told a) (told b) (told c) held mid now t u first.tells then.tells;
    is_sound = λ is. let s = first.is_sound is in let r = then.is_sound s.0 in (r.0, record { cause = tt; lowers = r.1.lowers ∙ s.1.lowers });
  }

  pub moved-breaks : ((s : S) → sound s → IsSome (told s)) → (a b c : S) (held mid now other t u rest : List ℕ) (e : Failed) → Move a b held mid t (Ok tt) → Move b c mid now u (Err e)
      → Move a c held other (t ++ (u ++ rest)) (Err e)
  moved-breaks tells a b c held mid now other t u rest e first then = record {
    counts = subst (λ n. Rises n (count c)) first.counts then.counts;
    tells = passes-breaks (told a) (told b) (told c) held mid t u rest e first.tells then.tells;
    is_sound = λ is.
        let s = first.is_sound is in
        let r = then.is_sound s.0 in (
          r.0,
          record {
            cause = sound-breaks (told a) (told b) (room a) (room b) held mid t u rest (tells a is) first.tells s.1.lowers r.1.cause;
            lowers = r.1.lowers ∙ s.1.lowers;
          },
        );
  }

  pub moved-text : (a b : S) (held now t u : List ℕ) (r : Result Unit Failed) → t ≡ u → Move a b held now t r → Move a b held now u r
  moved-text a b held now t u r is moved = subst (λ l. Move a b held now l r) is moved

  -- The piece made room and took a text.
  pub moved-pushed : (a b c : S) (held mid now bytes t u whole : List ℕ) → Move a b held mid t (Ok tt) → Move b c mid now [] (Ok tt) → bytes ≡ now ++ u → whole ≡ t ++ u → Move a c held bytes whole (Ok tt)
  moved-pushed a b c held mid now bytes t u whole first then pushed is =
      let both : Move a c held now t (Ok tt) = subst (λ l. Move a c held now l (Ok tt)) (append-nil t) (moved-both a b c held mid now t [] first then) in
      let more : Move a c held (now ++ u) (t ++ u) (Ok tt) = moved-more a c held now t u both in
      subst (λ l. Move a c held l whole (Ok tt)) (sym pushed) (subst (λ l. Move a c held (now ++ u) l (Ok tt)) (sym is) more)

  -- one text, and then another that is the rest of a whole
  pub moved-then : (a b c : S) (held mid now t u whole : List ℕ) → Move a b held mid t (Ok tt) → Move b c mid now u (Ok tt) → whole ≡ t ++ u → Move a c held now whole (Ok tt)
  moved-then a b c held mid now t u whole first then is = subst (λ l. Move a c held now l (Ok tt)) (sym is) (moved-both a b c held mid now t u first then)

  -- a failure behind a text that was moved
  pub moved-stops : ((s : S) → sound s → IsSome (told s)) → (a b c : S) (held mid now other t u rest whole : List ℕ) (e : Failed) → Move a b held mid t (Ok tt) → Move b c mid now u (Err e)
      → whole ≡ t ++ (u ++ rest) → Move a c held other whole (Err e)
  moved-stops tells a b c held mid now other t u rest whole e first then is =
      subst (λ l. Move a c held other l (Err e)) (sym is) (moved-breaks tells a b c held mid now other t u rest e first then)

  -- one text, and then the rest of a whole, as far as no put failed
  pub moved-rest : ((s : S) → sound s → IsSome (told s)) → (a b c : S) (held mid now t u whole : List ℕ) (r : Result Unit Failed) → Move a b held mid t (Ok tt) → Move b c mid now u r
      → whole ≡ t ++ u → Move a c held now whole r
  moved-rest tells a b c held mid now t u whole (Ok done) first then is = moved-then a b c held mid now t u whole first then is
  moved-rest tells a b c held mid now t u whole (Err e) first then is =
      moved-stops tells a b c held mid now now t u [] whole e first then (is ∙ ap (λ l. t ++ l) (sym (append-nil u)))

-- The piece that is left was put.
pub puts-last : (a b c : Option (List ℕ)) (held now t : List ℕ) (r : Result Unit Failed) → Passes a b held now t → Puts b c now r → Puts a c (held ++ t) r
puts-last None b c held now t r first then = tt
puts-last (Some old) b c held now t (Ok done) (p, whole, is) then =
    let second : Puts (Some (old ++ p)) c now (Ok done) = subst (λ o. Puts o c now (Ok done)) is then in
    second ∙ ap (λ l. Some l) (append_assoc old p now ∙ ap (λ l. old ++ l) (sym whole))
puts-last (Some old) b c held now t (Err e) (p, whole, is) then =
    let second : Puts (Some (old ++ p)) c now (Err e) = subst (λ o. Puts o c now (Err e)) is then in
    part-of old p (held ++ t) now [] c (whole ∙ ap (λ l. p ++ l) (sym (append-nil now))) second

room-last : (a b : Option (List ℕ)) (before now : ℕ) (held left t : List ℕ) → IsSome a → Passes a b held left t → now + length (written b) ≡ before + length (written a) → before + length left ≡ now + length (held ++ t)
room-last None b before now held left t some first lowers = cc some
room-last (Some old) b before now held left t some (p, whole, is) lowers =
    let reached : length (written b) ≡ length old + length p = ap (λ o. length (written o)) is ∙ length-append old p in
    let all : length (held ++ t) ≡ length p + length left = ap length whole ∙ length-append p left in
    omega arith

cause-last : (before now left whole : ℕ) (r : Result Unit Failed) → before + left ≡ now + whole → MatchResult r (λ _. left ≤ now) (λ _. now < left) → MatchResult r (λ _. whole ≤ before) (λ _. before < whole)
cause-last before now left whole (Ok done) same cause = omega arith
cause-last before now left whole (Err e) same cause = omega arith

pub sound-last : (a b c : Option (List ℕ)) (before mid now : ℕ) (held left t : List ℕ) (r : Result Unit Failed) → IsSome a → Passes a b held left t → mid + length (written b) ≡ before + length (written a)
    → PutsSoundly b c mid now left r → PutsSoundly a c before now (held ++ t) r
sound-last a b c before mid now held left t r some first lowers last = record {
  cause = cause-last before mid (length left) (length (held ++ t)) r (room-last a b before mid held left t some first lowers) last.cause;
  lowers = last.lowers ∙ lowers;
}

-- a list that is taken apart
pub flat_map-split : {X : Type 0} (f : X → List ℕ) (n : ℕ) (xs : List X) → flat_map f xs ≡ flat_map f (take n xs) ++ flat_map f (drop n xs)
flat_map-split f n xs = ap (λ l. flat_map f l) (sym (take-append-drop n xs)) ∙ flat_map-append f (take n xs) (drop n xs)

pub flat_map-next : {X : Type 0} (f : X → List ℕ) (n : ℕ) (xs : List X) (d : X) → n < length xs → flat_map f (take (n + 1) xs) ≡ flat_map f (take n xs) ++ f (get_or xs n d)
flat_map-next f n xs d small =
    ap (λ l. flat_map f l) (take_more xs n d small) ∙ flat_map-append f (take n xs) (get_or xs n d ∷ [])
    ∙ ap (λ l. flat_map f (take n xs) ++ l) (append-nil (f (get_or xs n d)))

pub flat_map-rest : {X : Type 0} (f : X → List ℕ) (n : ℕ) (xs : List X) (d : X) → n < length xs → flat_map f xs ≡ flat_map f (take n xs) ++ (f (get_or xs n d) ++ flat_map f (drop (n + 1) xs))
flat_map-rest f n xs d small =
    flat_map-split f (n + 1) xs ∙ ap (λ l. l ++ flat_map f (drop (n + 1) xs)) (flat_map-next f n xs d small)
    ∙ append_assoc (flat_map f (take n xs)) (f (get_or xs n d)) (flat_map f (drop (n + 1) xs))

-- the same at an item that owns memory
pub flat_map-next-item : {X : Type 0} (f : X → List ℕ) (n : ℕ) (xs : List X) (x : X) → n < length xs → x ≡ get_or xs n x → flat_map f (take (n + 1) xs) ≡ flat_map f (take n xs) ++ f x
flat_map-next-item f n xs x small is = flat_map-next f n xs x small ∙ ap (λ o. flat_map f (take n xs) ++ f o) (sym is)

pub flat_map-rest-item : {X : Type 0} (f : X → List ℕ) (n : ℕ) (xs : List X) (x : X) → n < length xs → x ≡ get_or xs n x → flat_map f xs ≡ flat_map f (take n xs) ++ (f x ++ flat_map f (drop (n + 1) xs))
flat_map-rest-item f n xs x small is = flat_map-rest f n xs x small ∙ ap (λ o. flat_map f (take n xs) ++ (f o ++ flat_map f (drop (n + 1) xs))) (sym is)
