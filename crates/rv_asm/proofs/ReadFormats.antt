-- The operands of each format that were listed are read back.
use Rattle.std.proofs.Common.{◌≡◌, ℕ, ◌/◌, ◌%◌, ◌^◌, inl, inr, Bool, true, false, List, [], ◌∷◌, map, Ok, decimal, refl, ap, arith}
use Rattle.std.proofs.lemmas.Bool.{cases_lt}
use Rattle.rv_table.specs.declared.operands.Operands.{Operands}
use Rattle.rv_table.specs.declared.operands.Operands.TheVariants.{U as OfU, J as OfJ, I as OfI, B as OfB, S as OfS, Shift as OfShift, R as OfR, Fence as OfFence, Whole as OfWhole, Csr as OfCsr, CsrImmediate as OfCsrImmediate}
use Rattle.rv_table.specs.Fields.{extended}
use Rattle.rv_table.specs.Operands.{IsU, IsJ, IsI, IsB, IsR, IsCsr, Fit, format_of}
use Rattle.rv_asm.specs.Numbers.{plain}
use Rattle.rv_asm.specs.Programs.{Placed}
use Rattle.rv_asm.specs.Readings.{register, csr, address, target}
use Rattle.rv_asm.specs.Forms.{upper, jump, branch, load, store, immediate, shift, registers, csr_register, csr_immediate, full_fence, by_format}
use Rattle.rv_asm.specs.Listings.{register_text, signed_text, csr_text, address_text, operand_text, written}
use Rattle.rv_asm.proofs.ReadNumbers.{Spans, unsigned-plain, signed-plain}
use Rattle.rv_asm.proofs.ReadOperands.{register-read, address-read, target-read_back, csr-read_back}

-- the operands as they are written
abbrev pub texts : Bool → Operands → List (List ℕ)
texts addressed o = map operand_text (written addressed o)

-- signed immediates: their range in two's complement
small-span : (imm : ℕ) → extended 12 (imm % 2 ^ 12) ≡ imm → Spans 2048 2047 imm
small-span imm h = elim (cases_lt imm (2 ^ 31)) [ inl e ↦ inl (e, omega arith) | inr e ↦ inr (e, omega arith, omega arith) ]

branch-span : (imm : ℕ) → imm % 2 ≡ 0 → extended 13 (imm % 2 ^ 13) ≡ imm → Spans 4096 4094 imm
branch-span imm h k = elim (cases_lt imm (2 ^ 31)) [ inl e ↦ inl (e, omega arith) | inr e ↦ inr (e, omega arith, omega arith) ]

jump-span : (imm : ℕ) → imm % 2 ≡ 0 → extended 21 (imm % 2 ^ 21) ≡ imm → Spans 0x100000 0xffffe imm
jump-span imm h k = elim (cases_lt imm (2 ^ 31)) [ inl e ↦ inl (e, omega arith) | inr e ↦ inr (e, omega arith, omega arith) ]

upper-read : (rd imm : ℕ) → IsU rd imm → upper (register_text rd ∷ decimal (imm / 2 ^ 12) ∷ []) ≡ Ok (OfU rd imm)
upper-read rd imm h =
    let e : register (register_text rd) ≡ Ok rd = register-read rd h.0 in
    let f : plain 0 0xfffff (decimal (imm / 2 ^ 12)) ≡ Ok (imm / 2 ^ 12) = unsigned-plain (imm / 2 ^ 12) 0 0xfffff (omega arith) (omega arith) in
    rw (e, f) (ap (λ n. Ok (OfU rd n)) (omega arith))

jump-read : (lines : List Placed) (source rd imm : ℕ) → IsJ rd imm → jump lines source (register_text rd ∷ signed_text imm ∷ []) ≡ Ok (OfJ rd imm)
jump-read lines source rd imm h =
    let e : register (register_text rd) ≡ Ok rd = register-read rd h.0 in
    let f : target lines source 0x100000 0xffffe (signed_text imm) ≡ Ok imm = target-read_back lines source 0x100000 0xffffe imm h.1 (jump-span imm h.1 h.2) in
    rw (e, f)

branch-read : (lines : List Placed) (source rs1 rs2 imm : ℕ) → IsB rs1 rs2 imm → branch lines source (register_text rs1 ∷ register_text rs2 ∷ signed_text imm ∷ []) ≡ Ok (OfB rs1 rs2 imm)
branch-read lines source rs1 rs2 imm h =
    let e : register (register_text rs1) ≡ Ok rs1 = register-read rs1 h.0 in
    let f : register (register_text rs2) ≡ Ok rs2 = register-read rs2 h.1 in
    let g : target lines source 4096 4094 (signed_text imm) ≡ Ok imm = target-read_back lines source 4096 4094 imm h.2 (branch-span imm h.2 h.3) in
    rw (e, f, g)

load-read : (rd rs1 imm : ℕ) → IsI rd rs1 imm → load (register_text rd ∷ address_text rs1 imm ∷ []) ≡ Ok (OfI rd rs1 imm)
load-read rd rs1 imm h =
    let e : register (register_text rd) ≡ Ok rd = register-read rd h.0 in
    let f : address (address_text rs1 imm) ≡ Ok (rs1, imm) = address-read rs1 imm h.1 (omega arith) (small-span imm h.2) in
    rw (e, f)

store-read : (rs1 rs2 imm : ℕ) → IsI rs1 rs2 imm → store (register_text rs2 ∷ address_text rs1 imm ∷ []) ≡ Ok (OfS rs1 rs2 imm)
store-read rs1 rs2 imm h =
    let e : register (register_text rs2) ≡ Ok rs2 = register-read rs2 h.1 in
    let f : address (address_text rs1 imm) ≡ Ok (rs1, imm) = address-read rs1 imm h.0 (omega arith) (small-span imm h.2) in
    rw (e, f)

immediate-read : (rd rs1 imm : ℕ) → IsI rd rs1 imm → immediate (register_text rd ∷ register_text rs1 ∷ signed_text imm ∷ []) ≡ Ok (OfI rd rs1 imm)
immediate-read rd rs1 imm h =
    let e : register (register_text rd) ≡ Ok rd = register-read rd h.0 in
    let f : register (register_text rs1) ≡ Ok rs1 = register-read rs1 h.1 in
    let g : plain 2048 2047 (signed_text imm) ≡ Ok imm = signed-plain 2048 2047 imm (small-span imm h.2) in
    rw (e, f, g)

shift-read : (rd rs1 shamt : ℕ) → IsR rd rs1 shamt → shift (register_text rd ∷ register_text rs1 ∷ decimal shamt ∷ []) ≡ Ok (OfShift rd rs1 shamt)
shift-read rd rs1 shamt h =
    let e : register (register_text rd) ≡ Ok rd = register-read rd h.0 in
    let f : register (register_text rs1) ≡ Ok rs1 = register-read rs1 h.1 in
    let g : plain 0 31 (decimal shamt) ≡ Ok shamt = unsigned-plain shamt 0 31 (omega arith) (omega arith) in
    rw (e, f, g)

registers-read : (rd rs1 rs2 : ℕ) → IsR rd rs1 rs2 → registers (register_text rd ∷ register_text rs1 ∷ register_text rs2 ∷ []) ≡ Ok (OfR rd rs1 rs2)
registers-read rd rs1 rs2 h =
    let e : register (register_text rd) ≡ Ok rd = register-read rd h.0 in
    let f : register (register_text rs1) ≡ Ok rs1 = register-read rs1 h.1 in
    let g : register (register_text rs2) ≡ Ok rs2 = register-read rs2 h.2 in
    rw (e, f, g)

csr_register-read : (rd rs1 number : ℕ) → IsCsr rd rs1 number → csr_register (register_text rd ∷ csr_text number ∷ register_text rs1 ∷ []) ≡ Ok (OfCsr rd rs1 number)
csr_register-read rd rs1 number h =
    let e : register (register_text rd) ≡ Ok rd = register-read rd h.0 in
    let f : csr (csr_text number) ≡ Ok number = (csr-read_back number h.2).0 in
    let g : register (register_text rs1) ≡ Ok rs1 = register-read rs1 h.1 in
    rw (e, f, g)

csr_immediate-read : (rd uimm number : ℕ) → IsCsr rd uimm number → csr_immediate (register_text rd ∷ csr_text number ∷ decimal uimm ∷ []) ≡ Ok (OfCsrImmediate rd uimm number)
csr_immediate-read rd uimm number h =
    let e : register (register_text rd) ≡ Ok rd = register-read rd h.0 in
    let f : csr (csr_text number) ≡ Ok number = (csr-read_back number h.2).0 in
    let g : plain 0 31 (decimal uimm) ≡ Ok uimm = unsigned-plain uimm 0 31 (omega arith) (omega arith) in
    rw (e, f, g)

fence-read : (rd rs1 imm : ℕ) → IsCsr rd rs1 imm → full_fence (decimal imm ∷ register_text rs1 ∷ register_text rd ∷ []) ≡ Ok (OfFence rd rs1 imm)
fence-read rd rs1 imm h =
    let e : plain 0 0xfff (decimal imm) ≡ Ok imm = unsigned-plain imm 0 0xfff (omega arith) (omega arith) in
    let f : register (register_text rs1) ≡ Ok rs1 = register-read rs1 h.1 in
    let g : register (register_text rd) ≡ Ok rd = register-read rd h.0 in
    rw (e, f, g)

-- each format's operands, also those of I as an address
pub operands-read : (addressed : Bool) (lines : List Placed) (source : ℕ) (o : Operands) → Fit o → by_format (format_of o) addressed lines source (texts addressed o) ≡ Ok o
operands-read true lines source (OfU rd imm) h = upper-read rd imm h
operands-read false lines source (OfU rd imm) h = upper-read rd imm h
operands-read true lines source (OfJ rd imm) h = jump-read lines source rd imm h
operands-read false lines source (OfJ rd imm) h = jump-read lines source rd imm h
operands-read true lines source (OfI rd rs1 imm) h = load-read rd rs1 imm h
operands-read false lines source (OfI rd rs1 imm) h = immediate-read rd rs1 imm h
operands-read true lines source (OfB rs1 rs2 imm) h = branch-read lines source rs1 rs2 imm h
operands-read false lines source (OfB rs1 rs2 imm) h = branch-read lines source rs1 rs2 imm h
operands-read true lines source (OfS rs1 rs2 imm) h = store-read rs1 rs2 imm h
operands-read false lines source (OfS rs1 rs2 imm) h = store-read rs1 rs2 imm h
operands-read true lines source (OfShift rd rs1 shamt) h = shift-read rd rs1 shamt h
operands-read false lines source (OfShift rd rs1 shamt) h = shift-read rd rs1 shamt h
operands-read true lines source (OfR rd rs1 rs2) h = registers-read rd rs1 rs2 h
operands-read false lines source (OfR rd rs1 rs2) h = registers-read rd rs1 rs2 h
operands-read true lines source (OfFence rd rs1 imm) h = fence-read rd rs1 imm h
operands-read false lines source (OfFence rd rs1 imm) h = fence-read rd rs1 imm h
operands-read true lines source OfWhole h = refl
operands-read false lines source OfWhole h = refl
operands-read true lines source (OfCsr rd rs1 number) h = csr_register-read rd rs1 number h
operands-read false lines source (OfCsr rd rs1 number) h = csr_register-read rd rs1 number h
operands-read true lines source (OfCsrImmediate rd uimm number) h = csr_immediate-read rd uimm number h
operands-read false lines source (OfCsrImmediate rd uimm number) h = csr_immediate-read rd uimm number h
