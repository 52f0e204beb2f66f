use Rattle.std.proofs.Common.{◌≡◌, subst, sym, List}
use Rattle.core_form.specs.Lawful.{Parts, meant}
use Rattle.lisp_reader.specs.Building.{Stock, stock}
use Rattle.lisp_reader.specs.declared.forms.TopRead.{TopRead}
use Rattle.expansion.specs.Steps.{World}
use Rattle.form_expander.specs.Reading.{world_of}
use Rattle.file_expansion.specs.Files.{IsProgram}
use Rattle.macroexpand.specs.declared.tops.Growing.{Growing}
use Rattle.macroexpand.specs.Given.{Answered}
use Rattle.macroexpand.specs.Preludes.{stock_of}
use Rattle.macroexpand.specs.Small.{IsSmall}
use Rattle.macroexpand.proofs.Filed.{program_lawful, program_is}
use Rattle.macroexpand.proofs.files.expand_file.Goals as goal

given_to : (forms found : List TopRead) (before first : Stock) (g : Growing) (w : World) → found ≡ forms → first ≡ before → Answered found first g w → Answered forms before g w
given_to forms found before first g w same begins h =
    subst (λ (s : Stock). Answered forms s g w) begins (subst (λ (fs : List TopRead). Answered fs first g w) same h)

pub new-requires : goal.new-requires
new-requires c =
    program_lawful c.in-Ok.grown (world_of c.expand_all.new.expander.world) c.in-Ok-hold_mentioned.held.items c.in-Ok.ensures.going c.in-Ok-hold_mentioned.ensures

pub returns-clause-program : goal.returns-clause-program
returns-clause-program c =
    subst (IsProgram c.args.forms.items (stock c.args.symbols c.args.heap)) (sym c.new.ensures)
    (program_is c.args.forms.items (stock c.args.symbols c.args.heap) c.in-Ok.grown (world_of c.expand_all.new.expander.world) c.in-Ok-hold_mentioned.held.items
    (given_to c.args.forms.items c.deref.result.now (stock c.args.symbols c.args.heap) (stock_of c.first_world-world.result) c.in-Ok.grown (world_of c.expand_all.new.expander.world)
    c.deref.ensures.value c.first_world-world.ensures.stock c.in-Ok.ensures.answered) c.in-Ok.ensures.going c.in-Ok-hold_mentioned.ensures)

pub returns-clause-small : goal.returns-clause-small
returns-clause-small c =
    subst (λ (p : Parts). IsSmall (meant p)) (sym c.new.ensures)
    (c.grown_are_small.ensures c.args.forms.items (stock c.args.symbols c.args.heap) c.in-Ok.grown (world_of c.expand_all.new.expander.world) c.in-Ok-hold_mentioned.held.items
    (given_to c.args.forms.items c.deref.result.now (stock c.args.symbols c.args.heap) (stock_of c.first_world-world.result) c.in-Ok.grown (world_of c.expand_all.new.expander.world)
    c.deref.ensures.value c.first_world-world.ensures.stock c.in-Ok.ensures.answered) c.in-Ok.ensures.going c.in-Ok-hold_mentioned.ensures)
