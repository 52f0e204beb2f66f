-- What forms at the top lead to, in a program that grows.
use Rattle.std.proofs.Common.{◌≡◌, ap, sym, subst, ℕ, ◌<◌, ◌≤◌, ◌+◌, List, [], ◌∷◌, map, drop, length, get_or}
use Rattle.std.proofs.lemmas.List.{drop_more, drop_all}
use Rattle.core_form.specs.Tree.{Top}
use Rattle.core_form.specs.Reading.{top_of}
use Rattle.expansion.specs.Scopes.{Scope}
use Rattle.expansion.specs.Steps.{World, gives}
use Rattle.form_expander.specs.declared.fault.Fault.{Fault}
use Rattle.form_expander.specs.declared.fault.Fault.TheVariants as fault
use Rattle.form_expander.specs.Outcomes.{Refuses}
use Rattle.macroexpand.specs.declared.trees.Measured.{Measured}
use Rattle.macroexpand.specs.declared.shapes.Parts.{Parts}
use Rattle.macroexpand.specs.declared.tops.Growing.{Growing}
use Rattle.file_expansion.specs.Tops.{Pending, pending, tree, at_top}
use Rattle.macroexpand.specs.Going.{prelude_of, trees_of, AddsTree, RefusesLarge, Leads, Comes, RefusesAll, parts_from}
use Rattle.macroexpand.proofs.Leading.{Refused, leads_tree, leads_parts, next_part, refused_part, refused_form, refused_large}

pub refuses : (g : Growing) (w : World) (ps : List Pending) (e : Fault) → Refused (prelude_of g) w (trees_of g) ps e → RefusesAll g w ps e
refuses g w ps (fault.Refused k place) h = h
refuses g w ps fault.Memory h = tt

pub refusal : (g : Growing) (w : World) (ps : List Pending) (e : Fault) → RefusesAll g w ps e → Refused (prelude_of g) w (trees_of g) ps e
refusal g w ps (fault.Refused k place) h = h
refusal g w ps fault.Memory h = tt

pub tree_comes : (old new : Growing) (w u : World) (p : Pending) (m : Measured) → at_top p w ≡ gives (tree (top_of m.form)) u → AddsTree old new u.heap m →
    Comes old w (p ∷ []) new u []
tree_comes old new w u p m e adds =
    subst (λ (ts : List Top). Leads (prelude_of old) w (trees_of old) (p ∷ []) u ts []) (sym adds.forms)
    (leads_tree (prelude_of old) w u (trees_of old) p (top_of m.form) e adds.small)

pub tree_large : (old : Growing) (w u : World) (p : Pending) (m : Measured) (e : Fault) → at_top p w ≡ gives (tree (top_of m.form)) u →
    RefusesLarge old u.heap m e → RefusesAll old w (p ∷ []) e
tree_large old w u p m (fault.Refused k place) is h = refused_large (prelude_of old) w u (trees_of old) p (top_of m.form) k place is h.is h.at h.large
tree_large old w u p m fault.Memory is h = tt

pub parts_come : (g : Growing) (w u : World) (p : Pending) (sc : Scope) (ps : Parts) → at_top p w ≡ gives (parts_from sc ps) u →
    Leads (prelude_of g) w (trees_of g) (p ∷ []) u (trees_of g) (map (pending sc ps.has_policy ps.chain) ps.forms.items)
parts_come g w u p sc ps e = leads_parts (prelude_of g) w u (trees_of g) p (map (pending sc ps.has_policy ps.chain) ps.forms.items) e

-- a form that is refused itself
pub form_refused : (g : Growing) (w : World) (p : Pending) (e : Fault) → Refuses (at_top p w) e → RefusesAll g w (p ∷ []) e
form_refused g w p e h = refuses g w (p ∷ []) e (refused_form (prelude_of g) w (trees_of g) p e h)

-- ---- forms one after another

module _ {A : Type 0} (make : A → Pending) (xs : List A) (i : ℕ) where
  rest_is : (d : A) → i < length xs → map make (drop i xs) ≡ make (get_or xs i d) ∷ map make (drop (i + 1) xs)
  rest_is d inside = ap (map make) (drop_more xs i d inside)

  module _ (first g : Growing) (w u : World) (ps : List Pending) (same : g.prelude ≡ first.prelude) (leads : Leads (prelude_of first) w (trees_of first) ps u (trees_of g) (map make (drop i xs))) where
    same_functions : prelude_of g ≡ prelude_of first
    same_functions = ap (λ (fs : _). prelude_of (record first { prelude = fs })) same

    front_leads : (d : A) → i < length xs →
        Leads (prelude_of first) w (trees_of first) ps u (trees_of g) (make (get_or xs i d) ∷ map make (drop (i + 1) xs))
    front_leads d inside = subst (λ (l : List Pending). Leads (prelude_of first) w (trees_of first) ps u (trees_of g) l) (rest_is d inside) leads

    pub part_leads : (d : A) (new : Growing) (v : World) → i < length xs → Comes g u (make (get_or xs i d) ∷ []) new v [] →
        Leads (prelude_of first) w (trees_of first) ps v (trees_of new) (map make (drop (i + 1) xs))
    part_leads d new v inside comes =
        next_part (prelude_of first) (prelude_of g) same_functions w u v (trees_of first) (trees_of g) (trees_of new) ps (map make (drop (i + 1) xs)) (make (get_or xs i d))
        (front_leads d inside) comes

    pub part_refuses : (d : A) (e : Fault) → i < length xs → RefusesAll g u (make (get_or xs i d) ∷ []) e → RefusesAll first w ps e
    part_refuses d e inside h =
        refuses first w ps e
        (refused_part (prelude_of first) (prelude_of g) same_functions w u (trees_of first) (trees_of g) ps (map make (drop (i + 1) xs)) (make (get_or xs i d)) e
        (front_leads d inside) (refusal g u (make (get_or xs i d) ∷ []) e h))

    pub all_lead : length xs ≤ i → Comes first w ps g u []
    all_lead past =
        subst (λ (l : List A). Leads (prelude_of first) w (trees_of first) ps u (trees_of g) (map make l)) (drop_all i xs past) leads
