-- The control and status registers that have names, with their numbers.
use Rattle.std.specs.Prelude.{ℕ, ◌==◌, List, [], ◌∷◌, Option, Some, None, cond, codes}
use Rattle.std.specs.Str.{bytes_eq}
use Rattle.rv_traps.specs.Registers.{mstatus, misa, mie, mtvec, mscratch, mepc, mcause, mtval, mip, mvendorid, marchid, mimpid, mhartid}

abbrev pub csrs : List (ℕ × List ℕ)
csrs =
    (mstatus, codes "mstatus") ∷
    (misa, codes "misa") ∷
    (mie, codes "mie") ∷
    (mtvec, codes "mtvec") ∷
    (mscratch, codes "mscratch") ∷
    (mepc, codes "mepc") ∷
    (mcause, codes "mcause") ∷
    (mtval, codes "mtval") ∷
    (mip, codes "mip") ∷
    (mvendorid, codes "mvendorid") ∷
    (marchid, codes "marchid") ∷
    (mimpid, codes "mimpid") ∷
    (mhartid, codes "mhartid") ∷ []

-- the number of the first register of a list with this name
abbrev pub number_among : List (ℕ × List ℕ) → List ℕ → Option ℕ
number_among [] name = None
number_among (r ∷ rest) name = cond (bytes_eq name r.1) (Some r.0) (number_among rest name)

-- the name of the first register of a list with this number
abbrev pub name_among : List (ℕ × List ℕ) → ℕ → Option (List ℕ)
name_among [] number = None
name_among (r ∷ rest) number = cond (number == r.0) (Some r.1) (name_among rest number)

abbrev pub csr_number : List ℕ → Option ℕ
csr_number name = number_among csrs name

abbrev pub csr_name : ℕ → Option (List ℕ)
csr_name number = name_among csrs number
