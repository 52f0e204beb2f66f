-- Forms at the top one after another: what each leads to.
use Rattle.std.proofs.Common.{◌≡◌, sym, subst, List, [], ◌∷◌, ◌++◌, map}
use Rattle.std.proofs.lemmas.List.{append-nil, append_assoc}
use Rattle.core_form.specs.Tree.{Top}
use Rattle.program_size.specs.Mentions.{Function}
use Rattle.program_size.specs.Sizes.{IsTooLarge}
use Rattle.expansion.specs.declared.kind.ExpandKind.{ExpandKind}
use Rattle.expansion.specs.declared.kind.ExpandKind.TheVariants as kind
use Rattle.lisp_base.specs.declared.values.Place.{Place}
use Rattle.expansion.specs.Steps.{World, gives, refused}
use Rattle.file_expansion.specs.Tops.{Pending, tree, parts, at_top, measured, Expands, finished, stops, goes_on, too_large, one_more}
use Rattle.form_expander.specs.declared.fault.Fault.{Fault}
use Rattle.form_expander.specs.declared.fault.Fault.TheVariants as fault
use Rattle.form_expander.specs.Outcomes.{Refuses}
use Rattle.macroexpand.specs.Going.{Leads}

module _ (prelude : List Function) where
  abbrev pub To : World → List Top → List Pending → World → List Top → List Pending → Type 0
  To w ts ps u us qs = Leads prelude w ts ps u us qs

  pub stay : (w : World) (ts : List Top) (ps : List Pending) → To w ts ps w ts ps
  stay w ts ps = record { on = λ more answer h. h }

  pub further : (w u v : World) (ts us vs : List Top) (ps qs rs : List Pending) → To w ts ps u us qs → To u us qs v vs rs → To w ts ps v vs rs
  further w u v ts us vs ps qs rs a b = record { on = λ more answer h. a.on more answer (b.on more answer h) }

  -- what forms lead to, with further ones behind
  pub behind : (w u : World) (ts us : List Top) (ps qs more : List Pending) → To w ts ps u us qs → To w ts (ps ++ more) u us (qs ++ more)
  behind w u ts us ps qs more a = record {
    on = λ last answer h.
        let P : List Pending → Type 0 = λ l. Expands prelude w ts l answer in
        let Q : List Pending → Type 0 = λ l. Expands prelude u us l answer in
        subst P (sym (append_assoc ps more last)) (a.on (more ++ last) answer (subst Q (append_assoc qs more last) h));
  }

  -- a form that gives its tree, with which the program isn't too large
  pub leads_tree : (w u : World) (ts : List Top) (p : Pending) (t : Top) → at_top p w ≡ gives (tree t) u →
      (IsTooLarge u.heap prelude (map measured (ts ++ t ∷ [])) → ⊥) → To w ts (p ∷ []) u (ts ++ t ∷ []) []
  leads_tree w u ts p t e small = record { on = λ more answer h. one_more w ts p more t u answer e small h }

  -- a form that gives forms in its place
  pub leads_parts : (w u : World) (ts : List Top) (p : Pending) (qs : List Pending) → at_top p w ≡ gives (parts qs) u → To w ts (p ∷ []) u ts qs
  leads_parts w u ts p qs e = record { on = λ more answer h. goes_on w ts p more qs u answer e h }

  -- where the answer is that of the forms
  pub ends : (w u : World) (ts us : List Top) (ps : List Pending) → To w ts ps u us [] → Expands prelude w ts ps (gives us u)
  ends w u ts us ps a =
      let P : List Pending → Type 0 = λ l. Expands prelude w ts l (gives us u) in
      subst P (append-nil ps) (a.on [] (gives us u) (finished u us))

-- the first of several forms leads on
pub next_part : (prelude other : List Function) → other ≡ prelude → (w u v : World) (ts us vs : List Top) (ps rest : List Pending) (p : Pending) →
    Leads prelude w ts ps u us (p ∷ rest) → Leads other u us (p ∷ []) v vs [] → Leads prelude w ts ps v vs rest
next_part prelude other is w u v ts us vs ps rest p a b =
    let c : Leads prelude u us (p ∷ []) v vs [] = subst (λ (l : List Function). Leads l u us (p ∷ []) v vs []) is b in
    further prelude w u v ts us vs ps (p ∷ rest) rest a (behind prelude u v us vs (p ∷ []) [] rest c)

-- what refuses the first of several forms refuses all that lead to it
abbrev pub Refused : List Function → World → List Top → List Pending → Fault → Type 0
Refused prelude w ts ps (fault.Refused k place) = (more : List Pending) → Expands prelude w ts (ps ++ more) (refused k place)
Refused prelude w ts ps fault.Memory = Unit {0}

pub refused_part : (prelude other : List Function) → other ≡ prelude → (w u : World) (ts us : List Top) (ps rest : List Pending) (p : Pending) (e : Fault) →
    Leads prelude w ts ps u us (p ∷ rest) → Refused other u us (p ∷ []) e → Refused prelude w ts ps e
refused_part prelude other is w u ts us ps rest p (fault.Refused k place) a h =
    λ more. a.on more (refused k place) (subst (λ (l : List Function). Expands l u us (p ∷ (rest ++ more)) (refused k place)) is (h (rest ++ more)))
refused_part prelude other is w u ts us ps rest p fault.Memory a h = tt

-- a form that is refused itself
pub refused_form : (prelude : List Function) (w : World) (ts : List Top) (p : Pending) (e : Fault) → Refuses (at_top p w) e → Refused prelude w ts (p ∷ []) e
refused_form prelude w ts p (fault.Refused k place) h = λ more. stops w ts p more k place h
refused_form prelude w ts p fault.Memory h = tt

-- a form with which the program is too large
pub refused_large : (prelude : List Function) (w u : World) (ts : List Top) (p : Pending) (t : Top) (k : ExpandKind) (place : Place) → at_top p w ≡ gives (tree t) u →
    k ≡ kind.ProgramTooLarge → place ≡ t.place → IsTooLarge u.heap prelude (map measured (ts ++ t ∷ [])) → Refused prelude w ts (p ∷ []) (fault.Refused k place)
refused_large prelude w u ts p t k place e is at large = λ more.
    let A : ExpandKind → Place → Type 0 = λ j q. Expands prelude w ts (p ∷ more) (refused j q) in
    subst (λ (j : ExpandKind). A j place) (sym is) (subst (A kind.ProgramTooLarge) (sym at) (too_large w ts p more t u e large))
