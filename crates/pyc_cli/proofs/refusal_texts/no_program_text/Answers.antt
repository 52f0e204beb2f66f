use Rattle.std.proofs.Common.{subst, string_bytes}
use Rattle.source_programs.specs.Programs.{IsRefusedFor}
use Rattle.source_programs.specs.declared.fault.ProgramFault.{ProgramFault}
use Rattle.pyc_cli.proofs.Refusals.{of_text, is_unread, is_unexpanded}
use Rattle.pyc_cli.proofs.refusal_texts.no_program_text.Goals as goal

pub returns-in-Read : goal.returns-in-Read
returns-in-Read c =
    of_text c.unread_text.result (λ text is source refused. is_unread source (string_bytes text) c.in-Read.kind c.in-Read.offset is (subst (λ (f : ProgramFault). IsRefusedFor source f) c.in-Read.is refused)) c.unread_text.ensures

pub returns-in-Expand : goal.returns-in-Expand
returns-in-Expand c =
    of_text c.unexpanded_text.result (λ text is source refused. is_unexpanded source (string_bytes text) c.in-Expand.kind c.in-Expand.place c.in-Expand.symbols is (subst (λ (f : ProgramFault). IsRefusedFor source f) c.in-Expand.is refused)) c.unexpanded_text.ensures
