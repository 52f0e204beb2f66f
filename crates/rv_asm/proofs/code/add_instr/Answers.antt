-- The bytes that are added are those of the word.
use Rattle.std.proofs.Common.{ℕ, ◌≡◌, ◌++◌, [], ◌∷◌, List, subst, arith}
use Rattle.std.specs.Int.{w32, to_le_bytes}
use Rattle.rv_asm.specs.Code.{Grew}
use Rattle.rv_asm.proofs.Growth.{Grew-instr}
use Rattle.rv_asm.proofs.code.add_instr.Goals as goal

pub returns-clause-grew : goal.returns-clause-grew
returns-clause-grew c =
    let old = c.args.code.now.items in
    let added : old ++ to_le_bytes w32 c.encode.result ≡ c.extend_from_slice.new.self.items = cc (c.in_ok-extend_from_slice.ensures.items) in
    subst (λ (new : List ℕ). Grew old new (c.args.instr ∷ [])) added
    (Grew-instr old c.args.instr c.encode.result c.encode.ensures.word c.encode.ensures.back (omega arith))
