use Rattle.std.proofs.Common.{◌≡◌, [], map, drop}
use Rattle.lisp_forms.specs.Growth.{Grows}
use Rattle.lambda_lists.specs.LambdaLists.{bound_keys}
use Rattle.lambda_lists.specs.Readings.{bindings_of, keyed_of}
use Rattle.lambda_lists.proofs.key_forms.bind_keys.Given as goal

abbrev pub invariant-loop-key : goal.invariant-loop-key
invariant-loop-key l = record {
  so_far : bound_keys l.rest (map keyed_of (drop l.key-index l.keys)) (bindings_of l.bindings.items, l.heap) ≡ bound_keys l.rest (map keyed_of l.keys) ([], l.fn.heap);
  grown : Grows l.fn.heap l.heap;
}
