-- Trees and bodies are lawful and sound: the laws of what forms expand to, at the top of a file.
use Rattle.std.specs.Prelude.{◌≡◌, refl, ℕ, Bool, true, false, if◌then◌else◌, nat_le, All, Option, Some, None}
use Rattle.std.proofs.Common.{ap, sym, subst, ◌∙◌, arith}
use Rattle.std.proofs.lemmas.List.Elements.{All-weaker}
use Rattle.lisp_base.specs.declared.values.Place.{Place}
use Rattle.lisp_base.specs.declared.values.SymId.{SymId}
use Rattle.lisp_base.specs.declared.values.Val.{Val}
use Rattle.lisp_forms.specs.Conses.{place_at}
use Rattle.core_form.specs.Tree.{Core, Top}
use Rattle.closed_copies.specs.Copies.{closed_copies}
use Rattle.expansion.specs.declared.heads.Target.{Target}
use Rattle.expansion.specs.declared.heads.Target.TheVariants.{Lexical, Global}
use Rattle.expansion.specs.declared.kind.ExpandKind.TheVariants as kind
use Rattle.expansion.specs.Scopes.{Scope, Check, of_binding, of_uses, rebound}
use Rattle.declarations.specs.declared.policy.TheConstants as policies
use Rattle.expansion.specs.Steps.{World, Answer, gives, refused, and_then, ◌>>=◌, ◌>>◌, pure, refuse, look, change, most_chain, most_levels}
use Rattle.expansion.specs.Expanding.{expand, tree_of, most_fuel}
use Rattle.expansion_laws.specs.There as there
use Rattle.expansion_laws.specs.There.{Stores, stores_of, SymbolIsThere, PlaceMayBe, TargetIsThere, NameIsThere, CheckIsThere, IsSoundScope, Holds, ThereAreData}
use Rattle.expansion_laws.specs.ThereParts.{BodiesAreThere, AreContents, DataAreValues}
use Rattle.expansion_laws.specs.Definitions as definitions
use Rattle.expansion_laws.specs.Definitions.{FormsDefine}
use Rattle.expansion_laws.specs.Tested.{IsGlobal}
use Rattle.expansion_laws.specs.LawfulTrees as laws
use Rattle.expansion_laws.specs.LawfulTrees.{IsAtTop, IsLawfullyMade, PlacesHaveSymbols, SymbolsHavePlaces, ReachedPlacesAreThere, top_of}
use Rattle.file_expansion.specs.Tops.{top_with, counted_anew, if_few, top_tree, most_copies}
use Rattle.file_expansion.specs.Files.{helper_scope}
use Rattle.file_expansion.specs.Laws.{program_at, symbols_here, IsThere, IsSoundWorld, IsSoundTarget, IsSoundVariable, IsSoundCheck, IsTopScope, MadeLawfully, TreesAreLawful, BodiesAreSound, DefinesSymbol, PreludesDefine}

-- ---- values

held : (w : World) → Holds (program_at w) (stores_of w)
held w = record { heap = refl; symbols = refl }

place_may_be : PlacesHaveSymbols → (s : Stores) (found : Option Place) → All (SymbolIsThere s) (symbols_here found) → PlaceMayBe s found
place_may_be places s None h = tt
place_may_be places s (Some place) h = places s place h

place_symbols_there : SymbolsHavePlaces → (s : Stores) (found : Option Place) → PlaceMayBe s found → All (SymbolIsThere s) (symbols_here found)
place_symbols_there symbols s None h = λ n d lt. absurd (omega (arith, lt))
place_symbols_there symbols s (Some place) h = symbols s place h

value_there : DataAreValues → PlacesHaveSymbols → (w : World) (v : Val) → IsThere w v → there.IsThere (stores_of w) v
value_there values places w v h =
    values (program_at w) (stores_of w) v (held w) h.datum (λ u r. place_may_be places (stores_of w) (place_at w.heap u) (h.places u r))

there_value : ThereAreData → ReachedPlacesAreThere → SymbolsHavePlaces → (w : World) (v : Val) → there.IsThere (stores_of w) v → IsThere w v
there_value data_of reached symbols w v h = record {
  datum = λ u r. data_of (program_at w) (stores_of w) v u (held w) h r;
  places = λ u r. place_symbols_there symbols (stores_of w) (place_at w.heap u) (reached (program_at w) (stores_of w) v u (held w) h r);
}

-- ---- worlds and scopes

world_sound : (w : World) → IsSoundWorld w → there.IsSoundWorld w
world_sound w h = record { begins = h.begins; specials = h.specials; declaimed = h.declaimed }

sound_world : (w : World) → there.IsSoundWorld w → IsSoundWorld w
sound_world w h = record { begins = h.begins; specials = h.specials; declaimed = h.declaimed }

target_global : (w : World) (t : Target) → IsSoundTarget w t → IsGlobal t
target_global w (Lexical n) h = h
target_global w (Global s) h = tt

target_there : (w : World) (t : Target) → IsSoundTarget w t → TargetIsThere (stores_of w) t
target_there w (Lexical n) h = elim h [ ]
target_there w (Global s) h = h

check_there : (w : World) (c : Check) → IsSoundCheck w c → CheckIsThere (stores_of w) c
check_there w (of_binding t spec) h = h.1
check_there w (of_uses t spec) h = h.1
check_there w (rebound s) h = tt

scope_sound : PlacesHaveSymbols → (w : World) (sc : Scope) → IsTopScope w sc → IsSoundScope (stores_of w) sc
scope_sound places w sc h = record {
  place = places (stores_of w) sc.place h.place;
  variables = All-weaker (IsSoundVariable w) (NameIsThere (stores_of w)) (λ p k. target_there w p.1 k.1) sc.variables h.variables;
  checks = All-weaker (IsSoundCheck w) (CheckIsThere (stores_of w)) (check_there w) sc.checks h.checks;
}

at_top : (w : World) (sc : Scope) → IsTopScope w sc → IsAtTop sc
at_top w sc h = record {
  variables = All-weaker (IsSoundVariable w) (λ (p : SymId × Target). IsGlobal p.1) (λ p k. target_global w p.1 k.1) sc.variables h.variables;
  functions = h.functions;
  blocks = h.blocks;
  tags = h.tags;
}

-- ---- the tree of a form

record TreeGiven (sc : Scope) (r : Answer Core) (t : Top) (after : World) : Type 0 where
  pub core : Core
  pub is : r ≡ gives core after
  pub top : top_with sc.place core after.nodes ≡ t

same_top : (t u : Top) (w after : World) → ◌≡◌ {A = Answer Top} (gives t w) (gives u after) → t ≡ u
same_top t u w after is = cc

same_world : (t u : Top) (w after : World) → ◌≡◌ {A = Answer Top} (gives t w) (gives u after) → w ≡ after
same_world t u w after is = cc

given_if : (b : Bool) (sc : Scope) (e : Core) (u after : World) (t : Top) →
    (if b then pure (top_with sc.place e u.nodes) else refuse kind.TooManyClosed sc) u ≡ gives t after → TreeGiven sc (gives e u) t after
unfolding pure refuse
given_if true sc e u after t is =
    let same : u ≡ after = same_world (top_with sc.place e u.nodes) t u after is in
    record {
      core = e;
      is = ap (λ (w : World). gives e w) same;
      top = ap (λ (w : World). top_with sc.place e w.nodes) (sym same) ∙ same_top (top_with sc.place e u.nodes) t u after is;
    }
given_if false sc e u after t is = cc

given_tree : (sc : Scope) (r : Answer Core) (t : Top) (after : World) → and_then r (λ e. look (λ w. top_with sc.place e w.nodes) >>= if_few sc) ≡ gives t after → TreeGiven sc r t after
unfolding ◌>>=◌ look if_few
given_tree sc (gives e u) t after is = given_if (nat_le (closed_copies e) most_copies) sc e u after t is
given_tree sc (refused k place) t after is = cc

top_given : (chain : ℕ) (sc : Scope) (v : Val) (w after : World) (t : Top) → top_tree chain sc v w ≡ gives t after → TreeGiven sc (expand most_fuel most_levels chain sc v (counted_anew w)) t after
unfolding top_tree tree_of ◌>>=◌ ◌>>◌ change
top_given chain sc v w after t is = given_tree sc (expand most_fuel most_levels chain sc v (counted_anew w)) t after is

pub trees_are_lawful : laws.TreesAreLawful → DataAreValues → PlacesHaveSymbols → TreesAreLawful
trees_are_lawful trees values places chain sc v w after t is world top here =
    let given : TreeGiven sc (expand most_fuel most_levels chain sc v (counted_anew w)) t after = top_given chain sc v w after t is in
    let made : IsLawfullyMade (counted_anew w) after (top_of sc.place given.core after) =
    trees most_fuel most_levels chain sc v (counted_anew w) after given.core sc.place given.is (record { next = refl; functions = refl; nodes = refl })
    (record { begins = world.begins; specials = world.specials; declaimed = world.declaimed }) (scope_sound places w sc top) (at_top w sc top)
    (value_there values places w v here) (places (stores_of w) sc.place top.place) in
    subst (MadeLawfully w after) given.top (record {
      grows = record { symbols = made.grown.symbols; objects = made.grown.objects };
      sound = sound_world after made.sound;
      tree = record { built = made.built; lawful = made.lawful (program_at after) (held after) };
    })

-- ---- bodies

pub bodies_are_sound : BodiesAreThere → DataAreValues → ThereAreData → PlacesHaveSymbols → SymbolsHavePlaces → ReachedPlacesAreThere → BodiesAreSound
bodies_are_sound bodies values data_of places symbols reached sc vs w after c is world here =
    let read : AreContents w after c =
    bodies sc vs w after c is (world_sound w world) (All-weaker (IsThere w) (there.IsThere (stores_of w)) (value_there values places w) vs here) in
    record {
      same = read.same;
      declared = record { types = read.declared.types; specials = read.declared.specials };
      forms = All-weaker (there.IsThere (stores_of w)) (IsThere w) (there_value data_of reached symbols w) c.forms read.forms;
    }

-- ---- the prelude

pub preludes_define : FormsDefine → PreludesDefine
preludes_define forms s v w after t name free is =
    let given : TreeGiven (helper_scope s) (expand most_fuel most_levels most_chain (helper_scope s) v (counted_anew w)) t after =
    top_given most_chain (helper_scope s) v w after t is in
    let defined : definitions.Defines s (definitions.top_of s given.core after.nodes) =
    forms most_fuel most_levels most_chain s policies.FIRST_POLICY v (counted_anew w) after given.core after.nodes name free given.is in
    subst (DefinesSymbol s) given.top (record { is = defined.definition; name = sym defined.named })
