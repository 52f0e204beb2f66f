-- A continuation is taken in the place of another.
use Rattle.std.proofs.Common.{◌≡◌, ◌≢◌, ◌⊎◌, ℕ, Bool, true, false, not, ◌&&◌, ◌||◌, ◌==◌, List, [], ◌∷◌, Option, Some, None, option_map, is_some, refl, sym, ap, ◌∙◌, inl, inr, eq-eqb, ne_eqb}
use Rattle.std.specs.List.{list_all}
use Rattle.std.proofs.lemmas.Bool.{cases_eq}
use Rattle.icr_graph.specs.declared.nodes.Extent.{Extent}
use Rattle.icr_graph.specs.declared.nodes.Extent.TheVariants as extent
use Rattle.icr_graph.specs.declared.nodes.Leaving.{Leaving}
use Rattle.icr_graph.specs.declared.nodes.Leaving.TheVariants as leaving
use Rattle.icr_graph.specs.declared.nodes.NodeKind.{NodeKind}
use Rattle.icr_graph.specs.declared.nodes.NodeKind.TheVariants as kind
use Rattle.icr_graph.specs.declared.nodes.Node.{Node}
use Rattle.icr_graph.specs.declared.parts.Cont.{Cont}
use Rattle.icr_graph.specs.Lists.{has_number, renumbered, listed, numbers_of, changed}
use Rattle.icr_graph.specs.Kinds.{operands_of, extent_operands, leaving_operands, extent_arrivals, extent_variables, arrivals_of, entry_left, exits_of, variables_of, functions_of, taking, extent_taking, leaving_taking}
use Rattle.icr_graph.specs.Plain.{FlowGraph, operands_at, dest_of}
use Rattle.icr_graph.specs.Whole.{Mutual, IsWhole}
use Rattle.icr_graph.specs.Edits.{taken_by, taking_instead, substituted}
use Rattle.icr_graph.specs.Faults.{is_cont, is_empty, substitute_fault}
use Rattle.icr_graph.proofs.Maps.{same_number, kept}
use Rattle.icr_graph.proofs.Allowed.{passed, both_true}

-- ---- what `taking` renames, and what it leaves

extent_operands_taking : (old new : ℕ) (x : Extent) → extent_operands (extent_taking old new x) ≡ renumbered old new (extent_operands x)
extent_operands_taking old new (extent.Named v land) = refl
extent_operands_taking old new (extent.Tags v tags) = refl
extent_operands_taking old new (extent.Catching tag land) = refl
extent_operands_taking old new (extent.Guarded cleanup) = refl
extent_operands_taking old new (extent.Special s value) = refl
extent_operands_taking old new (extent.Keep values) = refl

leaving_operands_taking : (old new : ℕ) (l : Leaving) → leaving_operands (leaving_taking old new l) ≡ renumbered old new (leaving_operands l)
leaving_operands_taking old new leaving.Close = refl
leaving_operands_taking old new (leaving.Guard values) = refl
leaving_operands_taking old new leaving.Resume = refl
leaving_operands_taking old new leaving.Release = refl
leaving_operands_taking old new (leaving.ReturnFrom s values) = refl
leaving_operands_taking old new (leaving.Go tag s) = refl
leaving_operands_taking old new (leaving.Throw tag values) = refl

operands_taking : (old new : ℕ) (k : NodeKind) → operands_of (taking old new k) ≡ renumbered old new (operands_of k)
operands_taking old new (kind.Ref l) = refl
operands_taking old new (kind.Set v value) = refl
operands_taking old new (kind.If test) = refl
operands_taking old new (kind.Combination op operands) = refl
operands_taking old new (kind.MvCombination function operands tail) = refl
operands_taking old new (kind.Bind v value) = refl
operands_taking old new (kind.Return value) = refl
operands_taking old new (kind.Entry x exits) = extent_operands_taking old new x
operands_taking old new (kind.Exit l entry) = leaving_operands_taking old new l

extent_arrivals_taking : (old new : ℕ) (x : Extent) → extent_arrivals (extent_taking old new x) ≡ extent_arrivals x
extent_arrivals_taking old new (extent.Named v land) = refl
extent_arrivals_taking old new (extent.Tags v tags) = refl
extent_arrivals_taking old new (extent.Catching tag land) = refl
extent_arrivals_taking old new (extent.Guarded cleanup) = refl
extent_arrivals_taking old new (extent.Special s value) = refl
extent_arrivals_taking old new (extent.Keep values) = refl

extent_variables_taking : (old new : ℕ) (x : Extent) → extent_variables (extent_taking old new x) ≡ extent_variables x
extent_variables_taking old new (extent.Named v land) = refl
extent_variables_taking old new (extent.Tags v tags) = refl
extent_variables_taking old new (extent.Catching tag land) = refl
extent_variables_taking old new (extent.Guarded cleanup) = refl
extent_variables_taking old new (extent.Special s value) = refl
extent_variables_taking old new (extent.Keep values) = refl

-- what is read of a node stays, but for its operands
module _ (old new : ℕ) where
  arrivals_taking : (k : NodeKind) → arrivals_of (taking old new k) ≡ arrivals_of k
  arrivals_taking (kind.Ref l) = refl
  arrivals_taking (kind.Set v value) = refl
  arrivals_taking (kind.If test) = refl
  arrivals_taking (kind.Combination op operands) = refl
  arrivals_taking (kind.MvCombination function operands tail) = refl
  arrivals_taking (kind.Bind v value) = refl
  arrivals_taking (kind.Return value) = refl
  arrivals_taking (kind.Entry x exits) = extent_arrivals_taking old new x
  arrivals_taking (kind.Exit l entry) = refl

  entry_taking : (k : NodeKind) → entry_left (taking old new k) ≡ entry_left k
  entry_taking (kind.Ref l) = refl
  entry_taking (kind.Set v value) = refl
  entry_taking (kind.If test) = refl
  entry_taking (kind.Combination op operands) = refl
  entry_taking (kind.MvCombination function operands tail) = refl
  entry_taking (kind.Bind v value) = refl
  entry_taking (kind.Return value) = refl
  entry_taking (kind.Entry x exits) = refl
  entry_taking (kind.Exit l entry) = refl

  exits_taking : (k : NodeKind) → exits_of (taking old new k) ≡ exits_of k
  exits_taking (kind.Ref l) = refl
  exits_taking (kind.Set v value) = refl
  exits_taking (kind.If test) = refl
  exits_taking (kind.Combination op operands) = refl
  exits_taking (kind.MvCombination function operands tail) = refl
  exits_taking (kind.Bind v value) = refl
  exits_taking (kind.Return value) = refl
  exits_taking (kind.Entry x exits) = refl
  exits_taking (kind.Exit l entry) = refl

  variables_taking : (k : NodeKind) → variables_of (taking old new k) ≡ variables_of k
  variables_taking (kind.Ref l) = refl
  variables_taking (kind.Set v value) = refl
  variables_taking (kind.If test) = refl
  variables_taking (kind.Combination op operands) = refl
  variables_taking (kind.MvCombination function operands tail) = refl
  variables_taking (kind.Bind v value) = refl
  variables_taking (kind.Return value) = refl
  variables_taking (kind.Entry x exits) = extent_variables_taking old new x
  variables_taking (kind.Exit l entry) = refl

  functions_taking : (k : NodeKind) → functions_of (taking old new k) ≡ functions_of k
  functions_taking (kind.Ref l) = refl
  functions_taking (kind.Set v value) = refl
  functions_taking (kind.If test) = refl
  functions_taking (kind.Combination op operands) = refl
  functions_taking (kind.MvCombination function operands tail) = refl
  functions_taking (kind.Bind v value) = refl
  functions_taking (kind.Return value) = refl
  functions_taking (kind.Entry x exits) = refl
  functions_taking (kind.Exit l entry) = refl

  -- ---- the renamed operands of a node

  -- another number is there as before
  pub renamed_other : (c : ℕ) → c ≢ old → c ≢ new → (xs : List ℕ) → has_number c (renumbered old new xs) ≡ has_number c xs
  renamed_other c not_old not_new [] = refl
  renamed_other c not_old not_new (x ∷ xs) = by_case (cases_eq x old) (renamed_other c not_old not_new xs)
    where
      by_case : (x ≡ old) ⊎ (x ≢ old) → has_number c (renumbered old new xs) ≡ has_number c xs → has_number c (renumbered old new (x ∷ xs)) ≡ has_number c (x ∷ xs)
      by_case (inl is) ih = rw (is, same_number old, ne_eqb new c (λ e. not_new (sym e)), ne_eqb old c (λ e. not_old (sym e))) ih
      by_case (inr is_not) ih = rw (ne_eqb x old is_not, ih) refl

  -- the old one is gone
  pub renamed_old : old ≢ new → (xs : List ℕ) → has_number old (renumbered old new xs) ≡ false
  renamed_old apart [] = refl
  renamed_old apart (x ∷ xs) = by_case (cases_eq x old) (renamed_old apart xs)
    where
      by_case : (x ≡ old) ⊎ (x ≢ old) → has_number old (renumbered old new xs) ≡ false → has_number old (renumbered old new (x ∷ xs)) ≡ false
      by_case (inl is) ih = rw (is, same_number old, ne_eqb new old (λ e. apart (sym e))) ih
      by_case (inr is_not) ih = rw (ne_eqb x old is_not, ne_eqb x old is_not) ih

  -- the new one is there where the old one was
  pub renamed_new : (xs : List ℕ) → has_number new xs ≡ false → has_number new (renumbered old new xs) ≡ has_number old xs
  renamed_new [] h = refl
  renamed_new (x ∷ xs) h = by_case (cases_eq x old) (cases_eq x new) h (renamed_new xs)
    where
      by_case : (x ≡ old) ⊎ (x ≢ old) → (x ≡ new) ⊎ (x ≢ new) → ((x == new) || has_number new xs) ≡ false → (has_number new xs ≡ false → has_number new (renumbered old new xs) ≡ has_number old xs) → has_number new (renumbered old new (x ∷ xs)) ≡ has_number old (x ∷ xs)
      by_case (inl is) other e ih = rw (is, same_number old, same_number new) refl
      by_case (inr is_not) (inl new_is) e ih = absurd_of (rw (new_is, same_number new) at e)
        where
          absurd_of : true ≡ false → has_number new (renumbered old new (x ∷ xs)) ≡ has_number old (x ∷ xs)
          absurd_of q = cc
      by_case (inr is_not) (inr new_not) e ih = rw (ne_eqb x old is_not, ne_eqb x new new_not) (ih (rw (ne_eqb x new new_not) at e))

module _ (g : FlowGraph) (node old new : ℕ) (taken : dest_of g old ≡ node ∷ []) (live : is_cont g new ≡ true) (free : dest_of g new ≡ []) (apart : old ≢ new) (w : IsWhole g) where
  -- the destinations afterwards
  dest_new : dest_of (substituted node old new g) new ≡ node ∷ []
  dest_new = rw (same_number new, ne_eqb new old (λ e. apart (sym e))) (by_case (g.cont new) live)
    where
      by_case : (o : Option Cont) → is_some o ≡ true → numbers_of (λ x. listed x.dest) (option_map (taken_by (Some node)) o) ≡ node ∷ []
      by_case None e = cc
      by_case (Some v) e = refl

  dest_old : dest_of (substituted node old new g) old ≡ []
  dest_old = rw (ne_eqb old new apart, same_number old) (by_case (g.cont old))
    where
      by_case : (o : Option Cont) → numbers_of (λ x. listed x.dest) (option_map (taken_by None) o) ≡ []
      by_case None = refl
      by_case (Some v) = refl

  dest_other : (c : ℕ) → c ≢ old → c ≢ new → dest_of (substituted node old new g) c ≡ dest_of g c
  dest_other c not_old not_new = rw (ne_eqb c new not_new, ne_eqb c old not_old) refl

  -- the operands afterwards
  operands_node : operands_at (substituted node old new g) node ≡ renumbered old new (operands_at g node)
  operands_node = rw (same_number node) (by_case (g.node node))
    where
      by_case : (o : Option Node) → numbers_of (λ x. operands_of x.kind) (option_map (taking_instead old new) o) ≡ renumbered old new (numbers_of (λ x. operands_of x.kind) o)
      by_case None = refl
      by_case (Some v) = operands_taking old new v.kind

  operands_other : (a : ℕ) → a ≢ node → operands_at (substituted node old new g) a ≡ operands_at g a
  operands_other a other = rw (ne_eqb a node other) refl

  operands_mutual : Mutual (operands_at (substituted node old new g)) (dest_of (substituted node old new g))
  operands_mutual a c = by_case (cases_eq a node) (cases_eq c old) (cases_eq c new)
    where
      Goal : Type 0
      Goal = has_number c (operands_at (substituted node old new g) a) ≡ has_number a (dest_of (substituted node old new g) c)

      by_case : (a ≡ node) ⊎ (a ≢ node) → (c ≡ old) ⊎ (c ≢ old) → (c ≡ new) ⊎ (c ≢ new) → has_number c (operands_at (substituted node old new g) a) ≡ has_number a (dest_of (substituted node old new g) c)
      by_case (inl at) (inl is) z =
          rw (at, is) (ap (has_number old) operands_node ∙ (renamed_old old new apart (operands_at g node) ∙ sym (ap (has_number node) dest_old)))
      by_case (inl at) (inr is_not) (inl is) =
          rw (at, is)
          (ap (has_number new) operands_node
          ∙ (renamed_new old new (operands_at g node) (w.operands node new ∙ ap (has_number node) free)
          ∙ (w.operands node old ∙ (ap (has_number node) taken ∙ sym (ap (has_number node) dest_new)))))
      by_case (inl at) (inr is_not) (inr new_not) =
          rw at
          (ap (has_number c) operands_node
          ∙ (renamed_other old new c is_not new_not (operands_at g node)
          ∙ (w.operands node c ∙ sym (ap (has_number node) (dest_other c is_not new_not)))))
      by_case (inr other) (inl is) z =
          rw is
          (ap (has_number old) (operands_other a other)
          ∙ (w.operands a old ∙ (ap (has_number a) taken ∙ (rw (ne_eqb node a (λ e. other (sym e))) refl ∙ sym (ap (has_number a) dest_old)))))
      by_case (inr other) (inr is_not) (inl is) =
          rw is
          (ap (has_number new) (operands_other a other)
          ∙ (w.operands a new ∙ (ap (has_number a) free ∙ (sym (rw (ne_eqb node a (λ e. other (sym e))) refl) ∙ sym (ap (has_number a) dest_new)))))
      by_case (inr other) (inr is_not) (inr new_not) =
          ap (has_number c) (operands_other a other) ∙ (w.operands a c ∙ sym (ap (has_number a) (dest_other c is_not new_not)))

  node_kept : (p : Node → List ℕ) → ((v : Node) → p (taking_instead old new v) ≡ p v) → (a : ℕ) → numbers_of p (changed (taking_instead old new) node g.node a) ≡ numbers_of p (g.node a)
  node_kept p same a = kept p (taking_instead old new) node g.node same a

  cont_kept : (p : Cont → List ℕ) → ((v : Cont) (d : Option ℕ) → p (taken_by d v) ≡ p v) → (k : ℕ) → numbers_of p (changed (taken_by (Some node)) new (changed (taken_by None) old g.cont) k) ≡ numbers_of p (g.cont k)
  cont_kept p same k = kept p (taken_by (Some node)) new (changed (taken_by None) old g.cont) (λ v. same v (Some node)) k ∙ kept p (taken_by None) old g.cont (λ v. same v None) k

  pub substituted_whole : IsWhole (substituted node old new g)
  substituted_whole =
      record {
        edges = w.edges;
        places = λ a b. ap (has_number b) (node_kept (λ x. x.block ∷ []) (λ v. refl) a) ∙ w.places a b;
        distinct = w.distinct;
        uses = λ a k. ap (has_number k) (node_kept (λ x. listed x.cont) (λ v. refl) a) ∙ (w.uses a k ∙ ap (has_number a) (sym (cont_kept (λ x. x.uses) (λ v d. refl) k)));
        operands = operands_mutual;
        arrivals = λ a b. ap (has_number b) (node_kept (λ x. arrivals_of x.kind) (λ v. arrivals_taking old new v.kind) a) ∙ w.arrivals a b;
        exits = λ a b. ap (has_number b) (node_kept (λ x. entry_left x.kind) (λ v. entry_taking old new v.kind) a) ∙ (w.exits a b ∙ ap (has_number a) (sym (node_kept (λ x. exits_of x.kind) (λ v. exits_taking old new v.kind) b)));
        entries = w.entries;
        variables = λ a. ap (list_all (λ v. is_some (g.variable v))) (node_kept (λ x. variables_of x.kind) (λ v. variables_taking old new v.kind) a) ∙ w.variables a;
        functions = λ a. ap (list_all (λ f. is_some (g.function f))) (node_kept (λ x. functions_of x.kind) (λ v. functions_taking old new v.kind) a) ∙ w.functions a;
        parameters = w.parameters;
        closed = w.closed;
        lambdas = w.lambdas;
        code = w.code;
      }

pub substitute_allowed : (g : FlowGraph) (old new : ℕ) → substitute_fault g old new ≡ None → (is_cont g new ≡ true) × (is_empty (dest_of g old) ≡ false) × (dest_of g new ≡ []) × (old ≢ new)
substitute_allowed g old new h =
    let first = passed (not (is_cont g old && is_cont g new)) _ _ h in
    let second = passed (is_empty (dest_of g old)) _ _ first.1 in
    let third = passed (not (is_empty (dest_of g new)) || (old == new)) _ _ second.1 in
    let parts = neither (not (is_empty (dest_of g new))) (old == new) third.0 in
    ((both_true (is_cont g old) (is_cont g new) first.0).1, second.0, empty (dest_of g new) parts.0, λ e. differ e parts.1)
  where
    neither : (x y : Bool) → (x || y) ≡ false → (x ≡ false) × (y ≡ false)
    neither true y e = cc
    neither false y e = (refl, e)

    empty : (xs : List ℕ) → not (is_empty xs) ≡ false → xs ≡ []
    empty [] e = refl
    empty (x ∷ xs) e = cc

    differ : old ≡ new → (old == new) ≡ false → ⊥
    differ e q = absurd_of (sym (eq-eqb old new e) ∙ q)
      where
        absurd_of : true ≡ false → ⊥
        absurd_of r = cc

pub substitute_kept : (g : FlowGraph) (node old new : ℕ) → substitute_fault g old new ≡ None → dest_of g old ≡ node ∷ [] → IsWhole g → IsWhole (substituted node old new g)
substitute_kept g node old new allowed taken w =
    let h = substitute_allowed g old new allowed in
    substituted_whole g node old new taken h.0 h.2 h.3 w
