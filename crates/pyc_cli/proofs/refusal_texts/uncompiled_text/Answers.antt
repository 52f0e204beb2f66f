use Rattle.std.proofs.Common.{subst, string_bytes}
use Rattle.compiler.specs.Emitted.{IsRefused as IsUncompiled}
use Rattle.compiler.specs.declared.fault.CompileFault.{CompileFault}
use Rattle.pyc_cli.specs.Making.{no_program}
use Rattle.pyc_cli.proofs.Refusals.{of_text, is_unread, is_unexpanded, is_not_yet}
use Rattle.pyc_cli.proofs.refusal_texts.uncompiled_text.Goals as goal

pub returns-in-Read : goal.returns-in-Read
returns-in-Read c =
    of_text c.unread_text.result (λ text is source refused. no_program (string_bytes text) (is_unread source (string_bytes text) c.in-Read.kind c.in-Read.offset is (subst (λ (f : CompileFault). IsUncompiled source f) c.in-Read.is refused))) c.unread_text.ensures

pub returns-in-Expand : goal.returns-in-Expand
returns-in-Expand c =
    of_text c.unexpanded_text.result (λ text is source refused. no_program (string_bytes text) (is_unexpanded source (string_bytes text) c.in-Expand.kind c.in-Expand.place c.in-Expand.symbols is (subst (λ (f : CompileFault). IsUncompiled source f) c.in-Expand.is refused))) c.unexpanded_text.ensures

pub returns-in-NotYet : goal.returns-in-NotYet
returns-in-NotYet c =
    of_text c.unbuilt_text.result (λ text is source refused. is_not_yet source (string_bytes text) c.in-NotYet.place c.in-NotYet.program c.symbols-in-NotYet.result.now.symbols c.symbols-in-NotYet.ensures is (subst (λ (f : CompileFault). IsUncompiled source f) c.in-NotYet.is refused)) c.unbuilt_text.ensures
