-- Files that are read one after another.
use Rattle.std.proofs.Common.{ℕ, ◌≡◌, ◌+◌, ◌<◌, zero, suc, map, List, [], ◌∷◌, ◌++◌, length, take, drop, get_or, IfSome, IsSomeAnd, IsSome, refl, ap, sym, ◌∙◌, subst, arith, append_assoc}
use Rattle.std.proofs.lemmas.List.{append-nil, take-append-drop, take_more, length-take, map-append}
use Rattle.std.specs.declared.option.Option.{Option}
use Rattle.std.specs.declared.option.Option.TheVariants.{Some, None}
use Rattle.cos_base.specs.Stores.{Store}
use Rattle.cos_config.specs.declared.config.PortConfig.{PortConfig}
use Rattle.cos_config.specs.declared.config.PortKind.{PortKind}
use Rattle.outcomes.specs.declared.failures.ReadFault.{ReadFault}
use Rattle.outcomes.specs.declared.failures.ReadFault.TheVariants.{Refused, Failed, NoMemory}
use Rattle.outcomes.specs.Seen.{Seen}
use Rattle.outcomes.specs.Outcomes.{Outcome, Lacks, Refuses}
use Rattle.outcomes.specs.Steps.{IsStanding}
use Rattle.outcomes.proofs.After.{both, joined-told, stand-after-of, stands-after, blamed-after}
use Rattle.cosim_inputs.specs.declared.refusals.InputsRefusal.{InputsRefusal}
use Rattle.cos_parts.specs.declared.any_device.AnyDevice.{AnyDevice}
use Rattle.cosim_inputs.specs.Fresh.{device_of, devices_of, kind_of, device_kinds, port_kinds}
use Rattle.cosim_inputs.specs.Limits.{IsPort, ArePorts}
use Rattle.cosim_inputs.specs.Inputs.{Asked, refusal, or_refused, trouble_at, trouble, port_files, ports_files}
use Rattle.cosim_inputs.specs.Reads.{AreRead, AreUnread, AreLacking}

-- What stands against some files stands against more.

refused-none : (r : Option InputsRefusal) (u v : Option (Outcome InputsRefusal)) → (u ≡ None → v ≡ v) → or_refused r u ≡ None → (r ≡ None) × (u ≡ None)
refused-none None u v any none = (refl, none)
refused-none (Some f) u v any none = absurd (cc)

pub at-none : (a : Asked) (found : Option (List ℕ)) (u v : Option (Outcome InputsRefusal)) → trouble_at a found u ≡ None → (trouble_at a found v ≡ v) × (u ≡ None)
at-none a None u v none = absurd (cc)
at-none a (Some bytes) u v none =
    let r = refused-none (refusal a.role bytes) u u (λ e. refl) none in
    (ap (λ x. or_refused x v) r.0, r.1)

pub trouble-behind : (m : Store) (xs ys : List Asked) → trouble m xs ≡ None → trouble m (xs ++ ys) ≡ trouble m ys
trouble-behind m [] ys none = refl
trouble-behind m (a ∷ xs) ys none =
    let here = at-none a (m a.name) (trouble m xs) (trouble m (xs ++ ys)) none in
    here.0 ∙ trouble-behind m xs ys here.1

at-some : (a : Asked) (found : Option (List ℕ)) (u v : Option (Outcome InputsRefusal)) (p : Outcome InputsRefusal) → (u ≡ Some p → v ≡ Some p) → trouble_at a found u ≡ Some p → trouble_at a found v ≡ Some p
at-some a None u v p on is = is
at-some a (Some bytes) u v p on is = by (refusal a.role bytes) is
  where
    by : (r : Option InputsRefusal) → or_refused r u ≡ Some p → or_refused r v ≡ Some p
    by None e = on e
    by (Some f) e = e

pub trouble-before : (m : Store) (xs ys : List Asked) (p : Outcome InputsRefusal) → trouble m xs ≡ Some p → trouble m (xs ++ ys) ≡ Some p
trouble-before m [] ys p is = absurd (cc)
trouble-before m (a ∷ xs) ys p is = at-some a (m a.name) (trouble m xs) (trouble m (xs ++ ys)) p (trouble-before m xs ys p) is

-- behind files that were read, and before more
pub trouble-within : (m : Store) (xs ys zs : List Asked) (p : Outcome InputsRefusal) → trouble m xs ≡ None → trouble m ys ≡ Some p → trouble m (xs ++ (ys ++ zs)) ≡ Some p
trouble-within m xs ys zs p none is = trouble-behind m xs (ys ++ zs) none ∙ trouble-before m ys zs p is

-- The same of the files that are told.

fine-both : (old mid : Option Store) (xs ys : List Asked) → IfSome old (λ m. mid ≡ Some m) → IfSome old (λ m. trouble m xs ≡ None) → IfSome mid (λ m. trouble m ys ≡ None) → IfSome old (λ m. trouble m (xs ++ ys) ≡ None)
fine-both None mid xs ys told first then = tt
fine-both (Some m) mid xs ys told first then = trouble-behind m xs ys first ∙ subst (λ o. IfSome o (λ n. trouble n ys ≡ None)) told then

refused-within : (old mid : Option Store) (xs ys zs : List Asked) (p : Outcome InputsRefusal) → IfSome old (λ m. mid ≡ Some m) → IfSome old (λ m. trouble m xs ≡ None) → IfSome mid (λ m. trouble m ys ≡ Some p) → IfSome old (λ m. trouble m (xs ++ (ys ++ zs)) ≡ Some p)
refused-within None mid xs ys zs p told first then = tt
refused-within (Some m) mid xs ys zs p told first then = trouble-within m xs ys zs p first (subst (λ o. IfSome o (λ n. trouble n ys ≡ Some p)) told then)

lacking-within : (old mid : Option Store) (xs ys zs : List Asked) → IsSome old → IfSome old (λ m. mid ≡ Some m) → IfSome old (λ m. trouble m xs ≡ None)
    → IsSomeAnd mid (λ m. (name : List ℕ) × (trouble m ys ≡ Some (Lacks name))) → IsSomeAnd old (λ m. (name : List ℕ) × (trouble m (xs ++ (ys ++ zs)) ≡ Some (Lacks name)))
lacking-within None mid xs ys zs some told first then = absurd (cc)
lacking-within (Some m) mid xs ys zs some told first then =
    let there = subst (λ o. IsSomeAnd o (λ n. (name : List ℕ) × (trouble n ys ≡ Some (Lacks name)))) told then in
    (there.0, trouble-within m xs ys zs (Lacks there.0) first there.1)

pub read-both : (f g : Seen Store) (xs ys : List Asked) → AreRead f xs → g.before ≡ f.now → g.old ≡ f.new → AreRead g ys → AreRead (both f g) (xs ++ ys)
read-both f g xs ys first joined same then =
    record { stands = stands-after f g first.stands joined same then.stands; fine = fine-both f.old g.old xs ys (joined-told f g first.stands same) first.fine then.fine }

-- a file behind others isn't read
pub unread-within : (f g : Seen Store) (xs ys zs : List Asked) (s : ReadFault InputsRefusal) → AreRead f xs → g.before ≡ f.now → g.old ≡ f.new → AreUnread g ys s → AreUnread (both f g) (xs ++ (ys ++ zs)) s
unread-within f g xs ys zs (Refused e) first joined same then =
    (stands-after f g first.stands joined same then.0, refused-within f.old g.old xs ys zs (Refuses e []) (joined-told f g first.stands same) first.fine then.1)
unread-within f g xs ys zs (Failed n) first joined same then = (
  blamed-after f.before g.before g.now n (joined ∙ first.stands.count) then.0,
  stand-after-of f.old g.old g.new (joined-told f g first.stands same) then.1,
)
unread-within f g xs ys zs NoMemory first joined same then =
    (then.0 ∙ joined ∙ first.stands.count, stand-after-of f.old g.old g.new (joined-told f g first.stands same) then.1)

pub lacks-within : (f g : Seen Store) (xs ys zs : List Asked) (s : ReadFault InputsRefusal) → IsSome f.old → AreRead f xs → g.old ≡ f.new → AreLacking g.old ys s → AreLacking f.old (xs ++ (ys ++ zs)) s
lacks-within f g xs ys zs (Failed n) some first same then = lacking-within f.old g.old xs ys zs some (joined-told f g first.stands same) first.fine then
lacks-within f g xs ys zs (Refused e) some first same then = tt
lacks-within f g xs ys zs NoMemory some first same then = tt

-- the files of ports, and of those behind them
pub ports_files-append : (p : ℕ) (xs ys : List PortConfig) → ports_files p (xs ++ ys) ≡ ports_files p xs ++ ports_files (p + length xs) ys
ports_files-append p [] ys = ap (λ n. ports_files n ys) (omega arith)
ports_files-append p (x ∷ xs) ys =
    ap (λ l. port_files p x ++ l) (ports_files-append (p + 1) xs ys) ∙ sym (append_assoc (port_files p x) (ports_files (p + 1) xs) (ports_files (p + 1 + length xs) ys))
    ∙ ap (λ n. ports_files p (x ∷ xs) ++ ports_files n ys) (omega arith)

pub ports_files-next : (n : ℕ) (xs : List PortConfig) (x : PortConfig) → n < length xs → x ≡ get_or xs n x → ports_files 0 (take (n + 1) xs) ≡ ports_files 0 (take n xs) ++ port_files n x
ports_files-next n xs x small is =
    let long : length (take n xs) ≡ n = omega (arith, length-take n xs) in
    ap (λ l. ports_files 0 l) (take_more xs n x small) ∙ ports_files-append 0 (take n xs) (get_or xs n x ∷ [])
    ∙ ap (λ l. ports_files 0 (take n xs) ++ l) (append-nil (port_files (0 + length (take n xs)) (get_or xs n x)) ∙ ap (λ k. port_files k (get_or xs n x)) (omega (arith, long)) ∙ ap (λ c. port_files n c) (sym is))

pub ports_files-rest : (n : ℕ) (xs : List PortConfig) (x : PortConfig) → n < length xs → x ≡ get_or xs n x → ports_files 0 xs ≡ ports_files 0 (take n xs) ++ (port_files n x ++ ports_files (n + 1) (drop (n + 1) xs))
ports_files-rest n xs x small is =
    let long : length (take (n + 1) xs) ≡ n + 1 = omega (arith, length-take (n + 1) xs) in
    ap (λ l. ports_files 0 l) (sym (take-append-drop (n + 1) xs)) ∙ ports_files-append 0 (take (n + 1) xs) (drop (n + 1) xs)
    ∙ ap (λ k. ports_files 0 (take (n + 1) xs) ++ ports_files k (drop (n + 1) xs)) (omega (arith, long))
    ∙ ap (λ l. l ++ ports_files (n + 1) (drop (n + 1) xs)) (ports_files-next n xs x small is)
    ∙ append_assoc (ports_files 0 (take n xs)) (port_files n x) (ports_files (n + 1) (drop (n + 1) xs))

-- one file alone
pub lacks-one-of : (old : Option Store) (a : Asked) → IsSomeAnd old (λ m. m a.name ≡ None) → IsSomeAnd old (λ m. (name : List ℕ) × (trouble m (a ∷ []) ≡ Some (Lacks name)))
lacks-one-of None a none = none
lacks-one-of (Some m) a none = (a.name, ap (λ found. trouble_at a found None) none)

-- a port of some that are within limits
port-at-of : (ps : List PortConfig) (n : ℕ) (d : PortConfig) → ArePorts ps → n < length ps → IsPort (get_or ps n d)
port-at-of [] n d are small = absurd (omega (arith, small))
port-at-of (p ∷ ps) zero d are small = are.0
port-at-of (p ∷ ps) (suc n) d are small = port-at-of ps n d are.1 (omega (arith, small))

pub port-at : (ps : List PortConfig) (n : ℕ) (x : PortConfig) → ArePorts ps → n < length ps → x ≡ get_or ps n x → IsPort x
port-at ps n x are small is = subst IsPort (sym is) (port-at-of ps n x are small)

-- the devices of ports, and of one more
pub devices-next : (old : Option Store) (n : ℕ) (ps : List PortConfig) (p : PortConfig) (ds es : List AnyDevice) (d : AnyDevice) → n < length ps → p ≡ get_or ps n p → es ≡ ds ++ d ∷ []
    → IfSome old (λ m. ds ≡ devices_of m (take n ps)) → (mid : Option Store) → IfSome old (λ m. mid ≡ Some m) → IfSome mid (λ m. d ≡ device_of m p) → IfSome old (λ m. es ≡ devices_of m (take (n + 1) ps))
devices-next None n ps p ds es d small is more are mid told here = tt
devices-next (Some m) n ps p ds es d small is more are mid told here =
    let one = subst (λ o. IfSome o (λ k. d ≡ device_of k p)) told here in
    more ∙ ap (λ l. l ++ d ∷ []) are ∙ ap (λ x. devices_of m (take n ps) ++ x ∷ []) (one ∙ ap (λ q. device_of m q) is)
    ∙ sym (ap (λ l. map (device_of m) l) (take_more ps n p small) ∙ map-append (device_of m) (take n ps) (get_or ps n p ∷ []))

-- and their kinds
pub kinds-next : (n : ℕ) (ps : List PortConfig) (p : PortConfig) (ds es : List AnyDevice) (d : AnyDevice)
    → n < length ps → p ≡ get_or ps n p → es ≡ ds ++ d ∷ [] → device_kinds ds ≡ port_kinds (take n ps)
    → kind_of d ≡ p.kind → device_kinds es ≡ port_kinds (take (n + 1) ps)
kinds-next n ps p ds es d small is more are here =
    let kind : PortConfig → PortKind = λ q. q.kind in
    ap device_kinds more ∙ map-append kind_of ds (d ∷ []) ∙ ap (λ ks. ks ++ kind_of d ∷ []) are
    ∙ ap (λ k. port_kinds (take n ps) ++ k ∷ []) (here ∙ ap kind is)
    ∙ sym (ap port_kinds (take_more ps n p small) ∙ map-append kind (take n ps) (get_or ps n p ∷ []))

-- What stands against the first files stands against all.
refused-front : (old : Option Store) (xs ys : List Asked) (p : Outcome InputsRefusal) → IfSome old (λ m. trouble m xs ≡ Some p) → IfSome old (λ m. trouble m (xs ++ ys) ≡ Some p)
refused-front None xs ys p is = tt
refused-front (Some m) xs ys p is = trouble-before m xs ys p is

lacking-front : (old : Option Store) (xs ys : List Asked) → IsSomeAnd old (λ m. (name : List ℕ) × (trouble m xs ≡ Some (Lacks name))) → IsSomeAnd old (λ m. (name : List ℕ) × (trouble m (xs ++ ys) ≡ Some (Lacks name)))
lacking-front None xs ys is = is
lacking-front (Some m) xs ys (name, is) = (name, trouble-before m xs ys (Lacks name) is)

pub unread-front : (f : Seen Store) (xs ys : List Asked) (s : ReadFault InputsRefusal) → AreUnread f xs s → AreUnread f (xs ++ ys) s
unread-front f xs ys (Refused e) (stands, is) = (stands, refused-front f.old xs ys (Refuses e []) is)
unread-front f xs ys (Failed n) unread = unread
unread-front f xs ys NoMemory unread = unread

pub lacks-front : (old : Option Store) (xs ys : List Asked) (s : ReadFault InputsRefusal) → AreLacking old xs s → AreLacking old (xs ++ ys) s
lacks-front old xs ys (Failed n) lacking = lacking-front old xs ys lacking
lacks-front old xs ys (Refused e) lacking = tt
lacks-front old xs ys NoMemory lacking = tt

-- The last files aren't read.
pub unread-last : (f g : Seen Store) (xs ys : List Asked) (s : ReadFault InputsRefusal) → AreRead f xs → g.before ≡ f.now → g.old ≡ f.new → AreUnread g ys s → AreUnread (both f g) (xs ++ ys) s
unread-last f g xs ys s first joined same then =
    subst (λ l. AreUnread (both f g) (xs ++ l) s) (append-nil ys) (unread-within f g xs ys [] s first joined same then)

pub lacks-last : (f g : Seen Store) (xs ys : List Asked) (s : ReadFault InputsRefusal) → IsSome f.old → AreRead f xs → g.old ≡ f.new → AreLacking g.old ys s → AreLacking f.old (xs ++ ys) s
lacks-last f g xs ys s some first same then = subst (λ l. AreLacking f.old (xs ++ l) s) (append-nil ys) (lacks-within f g xs ys [] s some first same then)

-- What was told of the files in between is told of them at first.
pub told-first : {T : Type 0} (P : Store → T → Type 0) (f g : Seen Store) (x : T) → IsStanding f → g.old ≡ f.new → IfSome g.old (λ m. P m x) → IfSome f.old (λ m. P m x)
told-first P f g x stands same is = by f.old (joined-told f g stands same)
  where
    by : (old : Option Store) → IfSome old (λ m. g.old ≡ Some m) → IfSome old (λ m. P m x)
    by None told = tt
    by (Some m) told = subst (λ o. IfSome o (λ n. P n x)) told is
