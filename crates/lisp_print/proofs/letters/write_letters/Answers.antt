use Rattle.std.proofs.Common.{arith, ◌≡◌}
use Rattle.std.proofs.lemmas.Grind.{common_steps}
use Rattle.lisp_print.specs.Texts.{most_letters, spelled}
use Rattle.lisp_print.proofs.InOrder.{below_some, flat_map_more, letters_cut, letters_whole}
use Rattle.lisp_print.proofs.letters.write_letters.Goals as goal

pub loop-i-preserved : goal.loop-i-preserved
loop-i-preserved g c =
    let letter = (g.V.View.shown c.args.view.now).letter c.args.w in
    let more = flat_map_more (spelled c.args.spelling) letter c.loop-i.i in
    let here = below_some c.args.count c.loop-i.i (letter c.loop-i.i) (omega arith) in
    grind (arith, common_steps, more, here)

pub returns-in_ok-push_str : goal.returns-in_ok-push_str
returns-in_ok-push_str g c =
    let letter = (g.V.View.shown c.args.view.now).letter c.args.w in
    let n : c.loop-i.i ≡ most_letters = omega arith in
    let e = letters_cut c.args.spelling letter c.args.count c.loop-i.i n (omega arith) in
    grind (arith, common_steps, e)

pub returns-else-most-count : goal.returns-else-most-count
returns-else-most-count g c =
    let letter = (g.V.View.shown c.args.view.now).letter c.args.w in
    let n : c.loop-i.i ≡ c.args.count = omega arith in
    let e = letters_whole c.args.spelling letter c.args.count c.loop-i.i n (omega arith) in
    grind (arith, common_steps, e)
