-- What is kept of a scope while a form is entered, and a scope as it was before (this project's own).
use Rattle.std.specs.Prelude.{List, ◌++◌, take, length}
use Rattle.form_expander.specs.declared.entering.Mark.{Mark}
use Rattle.expansion.specs.Scopes.{Check, Scope}

abbrev pub mark_of : Scope → Mark
mark_of sc = record {
  place = sc.place;
  policy = sc.policy;
  variables = length sc.variables;
  checks = length sc.checks;
  functions = length sc.functions;
  blocks = length sc.blocks;
  tags = length sc.tags;
}

-- a scope without what was added after the mark
abbrev pub cut : Mark → Scope → Scope
cut m sc = record {
  place = m.place;
  is_fixed = sc.is_fixed;
  variables = take m.variables sc.variables;
  checks = take m.checks sc.checks;
  functions = take m.functions sc.functions;
  blocks = take m.blocks sc.blocks;
  tags = take m.tags sc.tags;
  policy = m.policy;
}

-- further declared types
abbrev pub with_checks : List Check → Scope → Scope
with_checks checks sc = record sc { checks = sc.checks ++ checks }
