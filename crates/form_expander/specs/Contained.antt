-- The definition's contents of a body that the Rust value is, and the faults of declarations at a place (this project's own).
use Rattle.lisp_base.specs.declared.values.Place.{Place}
use Rattle.declarations.specs.Declarations.{declared_of}
use Rattle.declarations.specs.declared.fault.DeclarationFault.{DeclarationFault}
use Rattle.declarations.specs.declared.fault.DeclarationFault.TheVariants as declaration
use Rattle.expansion.specs.declared.kind.ExpandKind.TheVariants as kind
use Rattle.expansion.specs.Bindings.{Contents, contents}
use Rattle.form_expander.specs.declared.bodies.Contents.{Contents as Contents'}
use Rattle.form_expander.specs.declared.fault.Fault.{Fault}
use Rattle.form_expander.specs.declared.fault.Fault.TheVariants.{Refused, Memory}

abbrev pub contents_from : Contents' → Contents
contents_from c = contents c.forms.items (declared_of c.declared)

abbrev pub fault_at : Place → DeclarationFault → Fault
fault_at p declaration.BadForm = Refused kind.BadForm p
fault_at p declaration.BadType = Refused kind.BadType p
fault_at p declaration.BadPolicy = Refused kind.BadPolicy p
fault_at p declaration.Memory = Memory
