use Rattle.std.proofs.Common.{arith}
use Rattle.lisp_base.specs.Tables.{most_symbols}
use Rattle.lisp_base.proofs.Entries.{inserted_new}
use Rattle.lisp_base.proofs.symbols.add.Goals as goal

pub returns-clause-ok : goal.returns-clause-ok
unfolding most_symbols
returns-clause-ok c = (c.len-number.ensures.len, omega arith, inserted_new c.args.entry c.args.entries.now.keys c.insert.new.self.keys c.requires c.in_ok-insert.ensures.keys)
