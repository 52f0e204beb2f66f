use Rattle.std.proofs.Common.{◌≡◌, nat_eq, true, false, sym, ◌∙◌}
use Rattle.std.specs.Option.{is_some}
use Rattle.std.specs.Map.{lookup as found}
use Rattle.form_names.proofs.Filled.{kept, put}
use Rattle.form_names.proofs.numbered.keep_first.Goals as goal

pub returns-in_ok-insert : goal.returns-in_ok-insert
returns-in_ok-insert g c =
    let new : is_some (found (nat_eq c.args.number) c.args.map.now.entries) ≡ false = sym c.contains_key.ensures ∙ c.if-not-contains_key.true in
    put c.args.map.now.entries c.insert.new.self.entries c.args.number c.args.value new c.in_ok-insert.ensures.updates.0

pub returns-else-not-contains_key : goal.returns-else-not-contains_key
returns-else-not-contains_key g c =
    let there : is_some (found (nat_eq c.args.number) c.args.map.now.entries) ≡ true = sym c.contains_key.ensures ∙ c.if-not-contains_key.false in
    kept c.args.map.now.entries c.args.number c.args.value there
