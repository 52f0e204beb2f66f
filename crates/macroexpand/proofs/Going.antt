-- A program that grows, in a world that grows.
use Rattle.std.proofs.Common.{◌≡◌, ap, sym, subst, List, [], map}
use Rattle.std.specs.List.{All}
use Rattle.std.proofs.lemmas.List.Elements.{All-weaker, All-push, All-map, All-contains}
use Rattle.core_form.specs.Tree.{Top}
use Rattle.core_form.specs.Reading.{top_of}
use Rattle.core_form.specs.Lawful.{quoted}
use Rattle.program_size.specs.declared.prelude_functions.PreludeFunction.{PreludeFunction}
use Rattle.program_size.specs.Mentions.{Function, functions_of as counted_functions}
use Rattle.program_size.specs.Sizes.{IsTooLarge}
use Rattle.program_size.specs.Counting.{AreThere, PreludeIsThere, Counts}
use Rattle.expansion.specs.Steps.{World}
use Rattle.macroexpand.specs.declared.trees.Measured.{Measured}
use Rattle.macroexpand.specs.declared.tops.Growing.{Growing}
use Rattle.file_expansion.specs.Tops.{measured}
use Rattle.file_expansion.specs.Files.{Helper, functions_of}
use Rattle.file_expansion.specs.Laws.{IsLawfulTree, IsSoundWorld, Grows}
use Rattle.macroexpand.specs.Going.{helper_from, helpers_from, prelude_of, trees_of, HadCounted, AddsTree, AreFunctions, IsGoing}
use Rattle.macroexpand.proofs.Growth.{tree_stays, trees_stay}
use Rattle.macroexpand.proofs.Whole.{tree_there}

pub functions_stay : (w u : World) → Grows w u → (fs : List PreludeFunction) → AreFunctions w fs → AreFunctions u fs
functions_stay w u g fs h = record {
  lawful = All-weaker (λ (f : PreludeFunction). IsLawfulTree w (top_of f.form)) (λ (f : PreludeFunction). IsLawfulTree u (top_of f.form)) (λ f. tree_stays w u g (top_of f.form)) fs h.lawful;
  define = h.define;
  once = h.once;
}

pub had_counted : (g : Growing) (w u : World) → Grows w u → IsGoing g w → HadCounted g u.heap
had_counted g w u grown h = record {
  before = w.heap;
  more = grown.objects.0;
  heap_is = grown.objects.1;
  same = h.same;
  counts = h.counts;
}

-- one more tree
pub going_tree : (old new : Growing) (w u : World) (m : Measured) → IsGoing old w → Grows w u → IsSoundWorld u → IsLawfulTree u (top_of m.form) →
    AddsTree old new u.heap m → IsGoing new u
going_tree old new w u m h grown sound tree adds = record {
  same = subst (λ (fs : _). counted_functions fs.items ≡ functions_of (helpers_from fs.items)) (sym adds.prelude) h.same;
  counts = subst (λ (l : List Function). Counts new.sizes l u.heap (map measured (trees_of new))) (ap (λ (fs : _). functions_of (helpers_from fs.items)) (sym adds.prelude)) adds.counts;
  sound = sound;
  functions = subst (λ (fs : _). AreFunctions u fs.items) (sym adds.prelude) (functions_stay w u grown old.prelude.items h.functions);
  forms = subst (All (IsLawfulTree u)) (sym adds.forms) (All-push (IsLawfulTree u) (trees_of old) (top_of m.form) (trees_stay w u grown (trees_of old) h.forms) tree);
  small =
      let still : IsTooLarge u.heap (prelude_of old) (map measured (trees_of new)) → ⊥ =
      subst (λ (ts : List Top). IsTooLarge u.heap (prelude_of old) (map measured ts) → ⊥) (sym adds.forms) adds.small in
      subst (λ (l : List Function). IsTooLarge u.heap l (map measured (trees_of new)) → ⊥) (ap (λ (fs : _). functions_of (helpers_from fs.items)) (sym adds.prelude)) still;
}

-- all that the functions of a prelude quote is there
pub prelude_there : (w : World) (fs : List PreludeFunction) → AreFunctions w fs → PreludeIsThere w.heap (functions_of (helpers_from fs))
prelude_there w fs h = λ f c.
    let P : Function → Type 0 = λ k. AreThere w.heap (quoted k.form.core) in
    let make : Helper → Function = λ k. record { name = k.name; form = measured k.form } in
    let there : All (λ (k : PreludeFunction). P (make (helper_from k))) fs =
    All-weaker (λ (k : PreludeFunction). IsLawfulTree w (top_of k.form)) (λ (k : PreludeFunction). P (make (helper_from k))) (λ k. tree_there w (top_of k.form)) fs h.lawful in
    All-contains P (functions_of (helpers_from fs)) f (All-map P make (helpers_from fs) (All-map (λ (k : Helper). P (make k)) helper_from fs there)) c
