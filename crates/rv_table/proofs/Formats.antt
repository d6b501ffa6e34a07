-- What a format puts into a word is matched by its row and read back.
use Rattle.std.proofs.Common.{◌≡◌, ℕ, ◌+◌, ◌*◌, ◌%◌, ◌^◌, ◌<◌, bit_and, arith}
use Rattle.rv_table.proofs.Masks.{mask_opcode, mask_funct3, mask_funct7}
use Rattle.rv_table.specs.Fields.{field, rd_of, rs1_of, rs2_of, csr_of, u_of, j_of, i_of, s_of, b_of, u_word, j_word, i_word, s_word, b_word, r_word}
use Rattle.rv_table.specs.Operands.{IsU, IsJ, IsI, IsB, IsR, IsCsr}

pub u_matches : (m rd imm : ℕ) → m < 2 ^ 7 → bit_and (u_word m rd imm) 0x7f ≡ m
u_matches m rd imm e = omega (arith, mask_opcode (u_word m rd imm))

pub u_back : (m rd imm : ℕ) → m < 2 ^ 7 → IsU rd imm → (rd_of (u_word m rd imm) ≡ rd) × (u_of (u_word m rd imm) ≡ imm)
u_back m rd imm e h = (omega arith, omega arith)

pub j_matches : (m rd imm : ℕ) → m < 2 ^ 7 → bit_and (j_word m rd imm) 0x7f ≡ m
j_matches m rd imm e = omega (arith, mask_opcode (j_word m rd imm))

pub j_back : (m rd imm : ℕ) → m < 2 ^ 7 → IsJ rd imm → (rd_of (j_word m rd imm) ≡ rd) × (j_of (j_word m rd imm) ≡ imm)
j_back m rd imm e h = (omega arith, omega arith)

pub i_matches : (m rd rs1 imm : ℕ) → m ≡ m % 2 ^ 7 + field m 12 3 * 2 ^ 12 → bit_and (i_word m rd rs1 imm) 0x707f ≡ m
i_matches m rd rs1 imm e = omega (arith, mask_funct3 (i_word m rd rs1 imm))

pub i_back : (m rd rs1 imm : ℕ) → m ≡ m % 2 ^ 7 + field m 12 3 * 2 ^ 12 → IsI rd rs1 imm → (rd_of (i_word m rd rs1 imm) ≡ rd) × (rs1_of (i_word m rd rs1 imm) ≡ rs1) × (i_of (i_word m rd rs1 imm) ≡ imm)
i_back m rd rs1 imm e h = (omega arith, omega arith, omega arith)

pub b_matches : (m rs1 rs2 imm : ℕ) → m ≡ m % 2 ^ 7 + field m 12 3 * 2 ^ 12 → bit_and (b_word m rs1 rs2 imm) 0x707f ≡ m
b_matches m rs1 rs2 imm e = omega (arith, mask_funct3 (b_word m rs1 rs2 imm))

pub b_back : (m rs1 rs2 imm : ℕ) → m ≡ m % 2 ^ 7 + field m 12 3 * 2 ^ 12 → IsB rs1 rs2 imm → (rs1_of (b_word m rs1 rs2 imm) ≡ rs1) × (rs2_of (b_word m rs1 rs2 imm) ≡ rs2) × (b_of (b_word m rs1 rs2 imm) ≡ imm)
b_back m rs1 rs2 imm e h = (omega arith, omega arith, omega arith)

pub s_matches : (m rs1 rs2 imm : ℕ) → m ≡ m % 2 ^ 7 + field m 12 3 * 2 ^ 12 → bit_and (s_word m rs1 rs2 imm) 0x707f ≡ m
s_matches m rs1 rs2 imm e = omega (arith, mask_funct3 (s_word m rs1 rs2 imm))

pub s_back : (m rs1 rs2 imm : ℕ) → m ≡ m % 2 ^ 7 + field m 12 3 * 2 ^ 12 → IsI rs1 rs2 imm → (rs1_of (s_word m rs1 rs2 imm) ≡ rs1) × (rs2_of (s_word m rs1 rs2 imm) ≡ rs2) × (s_of (s_word m rs1 rs2 imm) ≡ imm)
s_back m rs1 rs2 imm e h = (omega arith, omega arith, omega arith)

pub csr_back : (m rd rs1 csr : ℕ) → m ≡ m % 2 ^ 7 + field m 12 3 * 2 ^ 12 → IsCsr rd rs1 csr → (rd_of (i_word m rd rs1 csr) ≡ rd) × (rs1_of (i_word m rd rs1 csr) ≡ rs1) × (csr_of (i_word m rd rs1 csr) ≡ csr)
csr_back m rd rs1 csr e h = (omega arith, omega arith, omega arith)

pub r_matches : (m rd rs1 rs2 : ℕ) → m ≡ m % 2 ^ 7 + field m 12 3 * 2 ^ 12 + field m 25 7 * 2 ^ 25 → bit_and (r_word m rd rs1 rs2) 0xfe00707f ≡ m
r_matches m rd rs1 rs2 e = omega (arith, mask_funct7 (r_word m rd rs1 rs2))

pub r_back : (m rd rs1 rs2 : ℕ) → m ≡ m % 2 ^ 7 + field m 12 3 * 2 ^ 12 + field m 25 7 * 2 ^ 25 → IsR rd rs1 rs2 → (rd_of (r_word m rd rs1 rs2) ≡ rd) × (rs1_of (r_word m rd rs1 rs2) ≡ rs1) × (rs2_of (r_word m rd rs1 rs2) ≡ rs2)
r_back m rd rs1 rs2 e h = (omega arith, omega arith, omega arith)
