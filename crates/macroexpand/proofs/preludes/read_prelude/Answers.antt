use Rattle.std.proofs.Common.{◌≡◌, ◌∙◌, subst, ℕ, List}
use Rattle.lisp_reader.specs.Answers.{Reads}
use Rattle.lisp_reader.specs.Building.{stock}
use Rattle.prelude.specs.Text.{prelude_text}
use Rattle.macroexpand.specs.Preludes.{stock_of}
use Rattle.macroexpand.proofs.Read.{prelude_read}
use Rattle.macroexpand.proofs.preludes.read_prelude.Goals as goal

pub returns-in-Ok-clause-read : goal.returns-in-Ok-clause-read
returns-in-Ok-clause-read c =
    let text : c.as_bytes-text.result.now ≡ prelude_text = c.as_bytes-text.ensures.value ∙ c.prelude_text.ensures in
    let reads : Reads prelude_text (stock_of c.args.world.now) (c.in-Ok.forms.items, stock c.read_file.new.symbols c.read_file.new.heap) =
    subst (λ (l : List ℕ). Reads l (stock_of c.args.world.now) (c.in-Ok.forms.items, stock c.read_file.new.symbols c.read_file.new.heap)) text c.in-Ok.ensures.ok in
    prelude_read c.texts_are_there.ensures c.args.world.now c.read_file.new.symbols c.read_file.new.heap c.in-Ok.forms.items c.requires.fresh c.requires.begins reads
    (record { symbols = c.read_file.ensures.kept.table.symbols; objects = c.read_file.ensures.kept.objects })
