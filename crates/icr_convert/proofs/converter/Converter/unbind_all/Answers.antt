use Rattle.std.proofs.Common.{◌≡◌, ◌-◌, ℕ, drop, get_or, subst, ap, arith}
use Rattle.core_form.specs.declared.tree.Binding.{Binding}
use Rattle.core_form.specs.ListReading.{bindings_list}
use Rattle.icr_convert.specs.Converting.{UnbindsAll}
use Rattle.icr_convert.proofs.Letting.{more_unbound}
use Rattle.icr_convert.proofs.converter.Converter.unbind_all.Goals as goal

pub loop-number-preserved : goal.loop-number-preserved
loop-number-preserved c =
    let bs = c.args.bindings.now in
    let i = c.loop-number.number in
    let r = c.index-bindings-number.result in
    record {
      so_far = more_unbound c.args.place bs i (i - 1) (get_or bs (i - 1) r) {b = c.unbind.new.self.built} (omega arith) (omega arith) (ap (λ (x : Binding). get_or bs (i - 1) x) c.index-bindings-number.is)
          c.loop-number.invariant.so_far c.in_ok-unbind.ensures;
      within = omega arith;
    }

pub returns : goal.returns
returns c =
    let none : c.loop-number.number ≡ 0 = omega arith in
    subst (λ (n : ℕ). UnbindsAll c.args.place (bindings_list (drop n c.args.bindings.now)) c.args.self.now.built c.loop-number.self.built) none c.loop-number.invariant.so_far
