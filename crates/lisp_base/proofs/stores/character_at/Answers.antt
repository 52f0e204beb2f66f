use Rattle.std.proofs.Common.{◌≡◌, ℕ, Option, Some, None, refl, sym, ◌∙◌}
use Rattle.std.specs.Option.{option_map}
use Rattle.std.proofs.lemmas.Iterator.{YieldsList-from_chars}
use Rattle.std.proofs.lemmas.Iterator.Consumers.{nth_from_yields_List}
use Rattle.lisp_base.proofs.stores.character_at.Goals as goal

same : (o : Option ℕ) → option_map (λ (c : ℕ). c) o ≡ o
same None = refl
same (Some c) = refl

pub returns : goal.returns
returns c = sym (same c.nth.result) ∙ nth_from_yields_List c.nth.result c.nth.new.self c.args.i c.nth.ensures.ran (YieldsList-from_chars c.args.name.now c.utf8.name c.chars.ensures.rest)
