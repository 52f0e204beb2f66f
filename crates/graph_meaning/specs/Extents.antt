-- Extents: how entries open them, exits end them, and an exit on its way passes them or arrives. (This project's own.)
use Rattle.std.specs.Prelude.{ℕ, suc, ◌+◌, true, false, List, [], ◌∷◌, length, if◌then◌else◌, ◌==◌, Option, Some, None}
use Rattle.lisp_base.specs.declared.values.SymId.{SymId}
use Rattle.lisp_base.specs.declared.values.Val.{Val}
use Rattle.lisp_base.specs.declared.values.Val.TheVariants.{Sym}
use Rattle.lisp_base.specs.declared.values.Place.{Place}
use Rattle.lisp_base.specs.declared.values.Place.TheVariants.{File}
use Rattle.lisp_base.specs.Sort.{nil}
use Rattle.core_form.specs.State.{Control as No_exit, State, Exit}
use Rattle.core_form.specs.Effect.{Effect, ◌>>=◌, ◌>>◌, pure, change, read, stack_at, hold, box_all, new_entry}
use Rattle.core_form.specs.Force.{Vals, Force, deeper, keeping, raise}
use Rattle.core_form.specs.Primitives.{value_in, give}
use Rattle.core_form.specs.Step.{place_in, entry_value, entry_in, with_entry, with_catch, exit_to, throw}
use Rattle.icr_graph.specs.declared.nodes.Extent.{Extent}
use Rattle.icr_graph.specs.declared.nodes.Extent.TheVariants as extent
use Rattle.icr_graph.specs.declared.nodes.Leaving.{Leaving as Way}
use Rattle.icr_graph.specs.declared.nodes.Leaving.TheVariants as way
use Rattle.icr_graph.specs.declared.nodes.Node.{Node}
use Rattle.icr_graph.specs.declared.nodes.Tag.{Tag}
use Rattle.icr_graph.specs.declared.parts.Variable.{Variable}
use Rattle.icr_graph.specs.Plain.{FlowGraph}
use Rattle.graph_meaning.specs.Machine.{Delivered, Activation, Arrival, Waiting, Caller, Landing, Tagged, Guarding, Binding, Keeping, Giving, Going_on, Leaving, Stopped, Machine, going, after, advanced, at_block, with_force, holding, values_at, value_at}
use Rattle.graph_meaning.specs.Reading.{variable_left}
use Rattle.graph_meaning.specs.Effects.{delivered_by, held_by}

-- ---- opening

-- a new entry in the variable of a block or tagbody
unfoldable pub enter_by : Option Variable → Effect ℕ
enter_by None = new_entry
enter_by (Some x) = new_entry >>= (λ n. place_in x.cell x.number (entry_value n) >> pure n)

-- the special variable has the value; its old one comes back
unfoldable pub rebind : Force → SymId → Val → Effect (Option Val)
rebind f x v =
    stack_at f.words >> box_all (v ∷ []) >> read (value_in x) >>= (λ old. change (give x (Some v)) >> pure old)

-- the extent of an entry node, of which d holds the operands: what is then in force, and what waits
abbrev pub opened : Activation → List Waiting → Force → Waiting → State → Machine
opened a ws f w s = going (advanced (with_force f a)) (w ∷ ws) s

abbrev pub open_extent : FlowGraph → Node → Delivered → Activation → List Waiting → Extent → State → Machine
open_extent g nd d a ws (extent.Named x land) s =
    after a ws (λ n. opened a ws (with_entry n a.force) (Landing n false (record { block = land; cont = nd.cont; charges = nd.charges }) a.force)) (enter_by (g.variable x) s)
open_extent g nd d a ws (extent.Tags x tags) s =
    after a ws (λ n. opened a ws (with_entry n a.force) (Tagged n tags a.force)) (enter_by (g.variable x) s)
open_extent g nd d a ws (extent.Catching tag land) s =
    after a ws (λ f. opened a ws f.1 (Landing f.0 true (record { block = land; cont = nd.cont; charges = nd.charges }) a.force)) (catch s)
  where
    catch : Effect (ℕ × Force)
    catch = new_entry >>= (λ n. let f = with_catch (value_at d tag) n a.force in stack_at f.words >> pure (n, f))
open_extent g nd d a ws (extent.Guarded cleanup) s =
    let f = deeper 8 a.force in after a ws (λ u. opened a ws f (Guarding cleanup a.force)) (stack_at f.words s)
open_extent g nd d a ws (extent.Special x value) s =
    let f = deeper 8 a.force in after a ws (λ old. opened a ws f (Binding x old a.force)) (rebind f x (value_at d value) s)
open_extent g nd d a ws (extent.Keep values) s =
    let vs = values_at d values in
    after a ws (λ u. opened a ws (keeping (length vs) a.force) (Keeping vs a.force)) (hold (a.force.kept + length vs) s)

-- ---- ending: the innermost extent is the exit's own in every graph that a form gives; else nothing happens

abbrev pub outside : Force → Activation → List Waiting → State → Machine
outside f a ws s = going (advanced (with_force f a)) ws s

abbrev pub close : Activation → List Waiting → State → Machine
close a (Landing n c at f ∷ ws) s = outside f a ws s
close a (Tagged n tags f ∷ ws) s = outside f a ws s
close a (Binding x old f ∷ ws) s = outside f a ws (give x old s)
close a ws s = going (advanced a) ws s

-- the cleanup form begins, while so many values are kept
abbrev pub clean_up : (cleanup kept : ℕ) → Waiting → Force → Activation → List Waiting → State → Machine
clean_up cleanup n w f a ws s =
    after a ws (λ u. going (at_block cleanup (with_force (keeping n f) a)) (w ∷ ws)) (hold (f.kept + n) s)

abbrev pub guard : Vals → Activation → List Waiting → State → Machine
guard vs a (Guarding cleanup f ∷ ws) s = clean_up cleanup (length vs) (Giving vs f) f a ws s
guard vs a ws s = going (advanced a) ws s

-- values that were kept are delivered
abbrev pub give_kept : Node → Vals → Force → Activation → List Waiting → State → Machine
give_kept nd vs f a ws s = after a ws (λ us. outside f (holding nd.cont us a) ws) (delivered_by nd.charges vs s)

abbrev pub resume : Node → Activation → List Waiting → State → Machine
resume nd a (Giving vs f ∷ ws) s = give_kept nd vs f a ws s
resume nd a (Going_on e f ∷ ws) s = record { control = Leaving e; here = with_force f a; waiting = ws; state = s }
resume nd a ws s = going (advanced a) ws s

abbrev pub release : Node → Activation → List Waiting → State → Machine
release nd a (Keeping vs f ∷ ws) s = give_kept nd vs f a ws s
release nd a ws s = going (advanced a) ws s

-- ---- leaving

unfoldable pub take_one : Effect (Unit {0})
take_one = change (λ s. record s { taken = suc s.taken })

-- an exit to the entry of a block or tagbody; one whose entry is gone leaves what isn't in force
unfoldable pub leave_extent : Force → Place → (name : Val) → (tag : Option ℕ) → Vals → Option Variable → Effect Vals
leave_extent f p name tag vs None = raise f (No_exit name) p
leave_extent f p name tag vs (Some x) =
    read (λ s. entry_in (held_by x s)) >>= (λ n. exit_to f p name (record { entry = n; tag = tag; values = vs }))

abbrev pub goes_on : Activation → List Waiting → Vals → State → Machine
goes_on a ws vs s = going (advanced a) ws s

abbrev pub leave_by : FlowGraph → Node → Delivered → Option ℕ → Activation → List Waiting → Way → State → Machine
leave_by g nd d entry a ws way.Close s = close a ws s
leave_by g nd d entry a ws (way.Guard values) s = guard (values_at d values) a ws s
leave_by g nd d entry a ws way.Resume s = resume nd a ws s
leave_by g nd d entry a ws way.Release s = release nd a ws s
leave_by g nd d entry a ws (way.ReturnFrom name values) s =
    after a ws (goes_on a ws) (leave_extent a.force nd.place (Sym name) None (values_at d values) (variable_left g entry) s)
leave_by g nd d entry a ws (way.Go tag name) s =
    after a ws (goes_on a ws) ((take_one >> leave_extent a.force nd.place name (Some tag) [] (variable_left g entry)) s)
leave_by g nd d entry a ws (way.Throw tag values) s =
    after a ws (goes_on a ws) (throw a.force nd.place (value_at d tag) (values_at d values) s)

-- ---- an exit on its way

abbrev pub spent : ℕ → State → State
spent n s = record s { counts = record s.counts { cost = s.counts.cost + n } }

abbrev pub on_its_way : Exit → Activation → List Waiting → State → Machine
on_its_way e a ws s = record { control = Leaving e; here = a; waiting = ws; state = s }

-- the block of a tag
abbrev pub block_of_tag : ℕ → List Tag → Option ℕ
block_of_tag t [] = None
block_of_tag t (u ∷ us) = if t == u.number then Some u.block else block_of_tag t us

abbrev pub block_for : Option ℕ → List Tag → Option ℕ
block_for None tags = None
block_for (Some t) tags = block_of_tag t tags

-- at a tag of a tagbody, which goes on; an exit without such a tag, as of no checked tree, ends the run
abbrev pub at_tag : Exit → Option ℕ → (entry : ℕ) → List Tag → Force → Activation → List Waiting → State → Machine
at_tag e None n tags f a ws s = record { control = Stopped (No_exit nil) (File 0 0); here = a; waiting = ws; state = s }
at_tag e (Some b) n tags f a ws s = going (at_block b (with_force (with_entry n f) a)) (Tagged n tags f ∷ ws) s

-- at a block or a CATCH: its values are delivered there
abbrev pub lands : Exit → Arrival → Force → Activation → List Waiting → State → Machine
lands e at f a ws s =
    after a ws (λ vs. going (holding at.cont vs (at_block at.block (with_force f a))) ws) (delivered_by at.charges e.values s)

abbrev pub passes : (cost : ℕ) → Exit → Activation → List Waiting → State → Machine
passes n e a ws s = on_its_way e a ws (spent n s)

-- an exit passes what waits, the innermost first, or arrives
abbrev pub leave_on : Exit → Activation → List Waiting → State → Machine
leave_on e a [] s = on_its_way e a [] s
leave_on e a (Caller tail frame caller ∷ ws) s = passes (if tail then 0 else 1) e caller ws (record s { frame = frame })
leave_on e a (Landing n c at f ∷ ws) s =
    if e.entry == n then lands e at f a ws s else passes (if c then 1 else 0) e a ws s
leave_on e a (Tagged n tags f ∷ ws) s =
    if e.entry == n then at_tag e (block_for e.tag tags) n tags f a ws s else on_its_way e a ws s
leave_on e a (Guarding cleanup f ∷ ws) s = clean_up cleanup (length e.values) (Going_on e f) f a ws (spent 1 s)
leave_on e a (Binding x old f ∷ ws) s = on_its_way e a ws (give x old (spent 1 s))
leave_on e a (Keeping vs f ∷ ws) s = on_its_way e a ws s
leave_on e a (Giving vs f ∷ ws) s = on_its_way e a ws s
leave_on e a (Going_on e' f ∷ ws) s = on_its_way e a ws s
