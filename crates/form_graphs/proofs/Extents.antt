-- Extents do in their graphs what they do: BLOCK and CATCH.
use Rattle.std.proofs.Common.{◌≡◌, ℕ, suc, ◌+◌, ◌==◌, refl, sym, ap, subst, ◌∙◌, arith, Bool, true, false, not, ◌&&◌, List, [], ◌∷◌, Option, Some}
use Rattle.std.specs.Prelude.{slice_get, max}
use Rattle.lisp_base.specs.declared.values.SymId.{SymId}
use Rattle.lisp_base.specs.declared.values.Place.{Place}
use Rattle.core_form.specs.Tree.{Core, Block, Catch}
use Rattle.core_form.specs.Facts.{Facts, has_number}
use Rattle.core_form.specs.State.{Symbol, State, Exit, first_of_values}
use Rattle.core_form.specs.Effect.{Gave, ◌>>=◌, ◌>>◌, pure, change, counting, spend, leave, boxes_more, deliver_more, allot, add, bind_to, new_entry, stack_at}
use Rattle.core_form.specs.Force.{Vals, Force}
use Rattle.core_form.specs.Step.{deliver, has_cell, place_in, entry_value, enter_extent, with_entry, with_catch}
use Rattle.core_form.specs.Run.{Outcome, Gives, Leaves, Fails, NotYet, Run, and_then, outcome, perform, visit, first, passed, land, arrive, block_round, catch_round, ◌>>=◌ as ◌>>=ʳ◌, pure as pure_run}
use Rattle.core_form.specs.Eval.{Call, eval}
use Rattle.icr_graph.specs.declared.nodes.NodeKind.TheVariants as kind
use Rattle.icr_graph.specs.declared.nodes.Extent.TheVariants as extent
use Rattle.icr_graph.specs.declared.nodes.Leaving.TheVariants as way
use Rattle.icr_graph.specs.declared.parts.Variable.{Variable}
use Rattle.icr_graph.specs.Plain.{FlowGraph}
use Rattle.graph_meaning.specs.Machine.{Delivered, without_all, delivered_to, Activation, Waiting, Landing, Leaving, Machine, going, with_force}
use Rattle.graph_meaning.specs.Effects.{delivered_by, test_operands, test_all, box_before}
use Rattle.graph_meaning.specs.Extents.{spent, enter_by, close}
use Rattle.graph_meaning.specs.Running.{step}
use Rattle.form_graphs.specs.Spots.{Spot, Unasserted, next, first_of, Passes, none, through, Here, Ends, Stands as VariableStands}
use Rattle.form_graphs.specs.Standing.{StandsAt, ExitsAt, IsFree}
use Rattle.form_graphs.specs.Landing.{at_spot, having, passed_on, Reaches, Keeps, Comes}
use Rattle.form_graphs.proofs.Coming.{one_step, reaches_then, comes_after, comes_then, comes_having, keeps_then, delivered_keeps, delivered_holds, delivered_once, passes_through, taken_keeps, spent_both, spent_none}
use Rattle.form_graphs.specs.Calling.{around}
use Rattle.form_graphs.proofs.Leaves.{runs_there, Does}

-- entering a block or tagbody gives the number of its entry
pub entered : (facts : Facts) (b : ℕ) (s : State) → (n : ℕ) × (t : State) × (enter_extent facts b s ≡ Gave n t)
unfolding enter_extent new_entry place_in allot add bind_to counting change pure ◌>>=◌
entered facts b s = by_cell (has_cell facts b)
  where
    by_cell : (c : Bool) → (n : ℕ) × (t : State) × ((new_entry >>= (λ n. place_in c b (entry_value n) >> pure n)) s ≡ Gave n t)
    by_cell true = (s.next_entry, _, refl)
    by_cell false = (s.next_entry, _, refl)

-- an entry node enters the same
pub enters_same : (facts : Facts) (x : Variable) (b : ℕ) → VariableStands facts x b → (s : State) → enter_by (Some x) s ≡ enter_extent facts b s
unfolding enter_by enter_extent
enters_same facts x b stands s = rw (stands.number, stands.cell) refl

-- the state when a catch has begun
pub begun_catch : Force → State → State
begun_catch f s = record s { next_entry = suc s.next_entry; counts = record s.counts { stack_words = max s.counts.stack_words (f.words + 8) } }

module _ (symbols : List Symbol) (graphs : List FlowGraph) (number : ℕ) (g : FlowGraph) (facts : Facts) (rank : ℕ → ℕ) (there : slice_get graphs number ≡ Some g) where
  -- a block that has ended goes on at the next
  pub ends_there : (p : Spot) (b : ℕ) (a : Activation) (ws : List Waiting) (s : State) → a.graph ≡ number → Ends g p b →
      step symbols graphs (going (at_spot p a) ws s) ≡ going (at_spot (first_of b) a) ws s
  ends_there p b a ws s at (end, after) = rw (at, there, end, after) refl

  -- an extent ends
  pub closes_there : (p : Spot) (pl : Place) (a : Activation) (ws : List Waiting) (s : State) → a.graph ≡ number → ExitsAt g facts rank p way.Close pl →
      step symbols graphs (going (at_spot p a) ws s) ≡ close (at_spot p a) ws s
  unfolding box_before test_operands pure ◌>>=◌
  closes_there p pl a ws s at (entry, (block, here)) = runs_there symbols graphs number g facts rank there p _ a ws s at here ∙ ap (close (at_spot p a) ws) (spent_none s)

  -- ---- BLOCK and CATCH

  -- the values of an exit arrive: what its delivery adds
  delivered_there : (w : Bool) (n : ℕ) (l : Passes) (vs : Vals) (s : State) →
      delivered_by (record { cost = n; levels = (through w l).levels; boxing = (through w l).boxing }) vs s ≡ Gave vs (passed_on l vs (delivered_once w vs s))
  unfolding delivered_by deliver_more boxes_more counting change pure ◌>>=◌
  delivered_there w n l vs s = ap (Gave vs) (passes_through w l vs s)

  -- a run that comes to a block's landing
  module _ (w : Bool) (l : Passes) (n : ℕ) (entry : ℕ) (catches : Bool) (block : ℕ) (low : ℕ) (to : Option ℕ) (pl : Place) (r : Spot) (f : Force) (a : Activation) (ws : List Waiting) (at : a.graph ≡ number) (closes : ExitsAt g facts rank r way.Close pl) (ends : Ends g (next r) block) where
    abbrev landing : Waiting
    landing = Landing entry catches (record { block = block; cont = to; charges = record { cost = n; levels = (through w l).levels; boxing = (through w l).boxing } }) a.force

    abbrev arriving : Exit → State → Delivered → Spot → Force → Machine
    arriving e s d p h = record { control = Leaving e; here = with_force h (having d (at_spot p (with_force f a))); waiting = landing ∷ ws; state = s }

    landing_left : (m : Machine) (e : Exit) (s : State) (d : Delivered) (p : Spot) (h : Force) (b : Bool) → (e.entry == entry) ≡ b → Keeps rank low to a.delivered d →
        Reaches symbols graphs m (arriving e s d p h) →
        Comes symbols graphs rank m low to (first_of block) l a ws (and_then (land b catches e s) (λ vs. perform (deliver w vs)))
    unfolding land passed leave spend pure_run perform deliver deliver_more boxes_more counting change pure ◌>>=◌ ◌>>=ʳ◌
    landing_left m e s d p h true same kept way = (
      delivered_to to e.values d,
      keeps_then rank low to a.delivered d (delivered_to to e.values d) kept (delivered_keeps rank low to e.values d),
      delivered_holds to e.values d,
      reaches_then symbols graphs way (1, rw (same, delivered_there w n l e.values s) refl),
    )
    landing_left m e s d p h false same kept way = by_kind catches refl
      where
        by_kind : (c : Bool) → catches ≡ c → Comes symbols graphs rank m low to (first_of block) l a ws (and_then (land false c e s) (λ vs. perform (deliver w vs)))
        by_kind true kind = (d, p, h, kept, reaches_then symbols graphs way (1, rw (same, kind) refl))
        by_kind false kind = (d, p, h, kept, reaches_then symbols graphs way (1, rw (same, kind, spent_none s) refl))

    landing_comes : (m : Machine) (o : Outcome Vals) → Comes symbols graphs rank m low to r (through w l) (with_force f a) (landing ∷ ws) o →
        Comes symbols graphs rank m low to (first_of block) l a ws (and_then (arrive entry catches o) (λ vs. perform (deliver w vs)))
    unfolding perform deliver deliver_more boxes_more counting change pure ◌>>=◌
    landing_comes m (Gives vs s) (d, kept, holds, way) = (
      d,
      kept,
      holds,
      reaches_then symbols graphs way (reaches_then symbols graphs
          (1, closes_there r pl (having d (with_force f a)) (landing ∷ ws) (passed_on (through w l) vs s) at closes)
          (1, ends_there (next r) block (having d a) ws (passed_on (through w l) vs s) at ends ∙ ap (going (having d (at_spot (first_of block) a)) ws) (passes_through w l vs s))),
    )
    landing_comes m (Leaves e s) (d, p, h, kept, way) = landing_left m e s d p h (e.entry == entry) refl kept way
    landing_comes m (Fails x p s) came = came
    landing_comes m (NotYet s) came = came

  -- an entry node opens the extent of a block
  opens_block : (pl : Place) (v block : ℕ) (exits : List ℕ) (variable : Variable) (b c : ℕ) (to : Option ℕ) (l : Passes) (p : Spot) (a : Activation) (ws : List Waiting) (s : State) (m : ℕ) (u : State) →
      a.graph ≡ number → g.variable v ≡ Some variable → VariableStands facts variable b → Here g p (kind.Entry (extent.Named v block) exits) to pl c l → enter_extent facts b (spent c s) ≡ Gave m u →
      step symbols graphs (going (at_spot p a) ws s) ≡ going (at_spot (next p) (with_force (with_entry m a.force) a)) (Landing m false (record { block = block; cont = to; charges = record { cost = c; levels = l.levels; boxing = l.boxing } }) a.force ∷ ws) u
  unfolding box_before test_operands pure ◌>>=◌
  opens_block pl v block exits variable b c to l p a ws s m u at is_there stands (number_of, here) enters =
      runs_there symbols graphs number g facts rank there p _ a ws s at here ∙ rw (is_there, enters_same facts variable b stands (spent c s), enters) refl

  -- an entry node opens the extent of a catch
  opens_catch : (pl : Place) (j block : ℕ) (exits : List ℕ) (c : ℕ) (to : Option ℕ) (l : Passes) (p : Spot) (a : Activation) (ws : List Waiting) (s : State) (vs : Vals) →
      a.graph ≡ number → Unasserted g j → a.delivered j ≡ Some vs → Here g p (kind.Entry (extent.Catching j block) exits) to pl c l →
      step symbols graphs (going (at_spot p a) ws s) ≡ going (at_spot (next p) (with_force (with_catch (first_of_values vs) s.next_entry a.force) (having (without_all (j ∷ []) a.delivered) a)))
      (Landing s.next_entry true (record { block = block; cont = to; charges = record { cost = c; levels = l.levels; boxing = l.boxing } }) a.force ∷ ws) (begun_catch a.force (spent c s))
  unfolding begun_catch box_before test_operands test_all new_entry stack_at counting change pure ◌>>=◌
  opens_catch pl j block exits c to l p a ws s vs at free holds (number_of, here) =
      runs_there symbols graphs number g facts rank there p _ a ws s at here ∙ rw (free, holds) refl

  module _ (call : Call) (limit : ℕ) where
    pub block_does : (t w : Bool) (pl : Place) (b : ℕ) (name : SymId) (e : Core) (n : ℕ) (l : Passes) (low : ℕ) (to : Option ℕ) (p q : Spot) →
        ((r : Spot) → StandsAt g facts rank (not (has_number b facts.cells) && t) false e 0 (through w l) low to (next p) r →
        Does symbols graphs number g facts rank there call limit (not (has_number b facts.cells) && t) false e 0 (through w l) low to (next p) r) →
        StandsAt g facts rank t w (Block pl b name e) n l low to p q → Does symbols graphs number g facts rank there call limit t w (Block pl b name e) n l low to p q
    unfolding eval visit perform block_round spend counting change ◌>>=ʳ◌
    block_does t w pl b name e n l low to p q part (v, exits, r, block, (variable, is_there, stands), here, body, closes, ends, end) f a ws s at force =
        subst (λ (x : Spot). Comes symbols graphs rank (going (at_spot p a) ws s) low to x l a ws (inside_of (spent 1 (spent n s)))) (sym end)
        (subst (λ (x : State). Comes symbols graphs rank (going (at_spot p a) ws s) low to (first_of block) l a ws (inside_of x)) (sym (spent_both n 1 s))
        (opened_at (entered facts b (spent (n + 1) s))))
      where
        evaluated : ℕ → Run Vals
        evaluated m = eval call limit (around facts (not (has_number b facts.cells) && t) false (with_entry m f)) e

        waits : ℕ → Waiting
        waits m = Landing m false (record { block = block; cont = to; charges = record { cost = n + 1; levels = (through w l).levels; boxing = (through w l).boxing } }) a.force

        inner : ℕ → State → Machine
        inner m u = going (at_spot (next p) (with_force (with_entry m a.force) a)) (waits m ∷ ws) u

        inside_of : State → Outcome Vals
        inside_of x = and_then (and_then (outcome (enter_extent facts b x)) (λ m. block_round m (evaluated m))) (λ vs. perform (deliver w vs))

        opened_at : (m : ℕ) × (u : State) × (enter_extent facts b (spent (n + 1) s) ≡ Gave m u) → Comes symbols graphs rank (going (at_spot p a) ws s) low to (first_of block) l a ws (inside_of (spent (n + 1) s))
        opened_at (m, u, enters) =
            rw enters (comes_after symbols graphs rank (going (at_spot p a) ws s) (step symbols graphs (going (at_spot p a) ws s)) low to (first_of block) l a ws
            (and_then (arrive m false (evaluated m u)) (λ vs. perform (deliver w vs)))
            (one_step symbols graphs (going (at_spot p a) ws s))
            (rw (opens_block pl v block exits variable b (n + 1) to (through w l) p a ws s m u at is_there stands here enters)
            (landing_comes w l (n + 1) m false block low to pl r (with_entry m a.force) a ws at closes ends _ (evaluated m u)
            (subst (λ (x : State). Comes symbols graphs rank (inner m u) low to r (through w l) (with_force (with_entry m a.force) a) (waits m ∷ ws) (evaluated m x)) (spent_none u)
            (part r body (with_entry m f) (with_force (with_entry m a.force) a) (waits m ∷ ws) u at (ap (with_entry m) force))))))

    -- the extent of a catch whose tag is there
    catch_second : (w : Bool) (pl : Place) (c : Core) (l : Passes) (low : ℕ) (to : Option ℕ) (r x : Spot) (f : Force) (j block : ℕ) (exits : List ℕ) (a : Activation) (ws : List Waiting) (s : State) (vs : Vals) →
        (StandsAt g facts rank false false c 0 (through w l) low to (next r) x → Does symbols graphs number g facts rank there call limit false false c 0 (through w l) low to (next r) x) →
        a.graph ≡ number → a.force ≡ f → IsFree g facts rank low j → a.delivered j ≡ Some vs → Here g r (kind.Entry (extent.Catching j block) exits) to pl 0 (through w l) →
        StandsAt g facts rank false false c 0 (through w l) low to (next r) x → ExitsAt g facts rank x way.Close pl → Ends g (next x) block →
        Comes symbols graphs rank (going (at_spot r a) ws s) low to (first_of block) l a ws (and_then (arrive s.next_entry true (eval call limit (around facts false false (with_catch (first_of_values vs) s.next_entry f)) c (begun_catch f s))) (λ us. perform (deliver w us)))
    catch_second w pl c l low to r x f j block exits a ws s vs part at force free holds here body closes ends =
        comes_after symbols graphs rank (going (at_spot r a) ws s) (step symbols graphs (going (at_spot r a) ws s)) low to (first_of block) l a ws _
        (one_step symbols graphs (going (at_spot r a) ws s))
        (comes_having symbols graphs rank _ low low to (first_of block) l a (without_all (j ∷ []) a.delivered) ws _ (omega arith) (taken_keeps rank low to (j ∷ []) a.delivered (free.0, tt))
        (rw (opens_catch pl j block exits 0 to (through w l) r a ws s vs at free.1 holds here, spent_none s)
        (landing_comes w l 0 s.next_entry true block low to pl x inner_force (having (without_all (j ∷ []) a.delivered) a) ws at closes ends _ _
        (subst (λ (h : Force). Comes symbols graphs rank (inner (begun_catch a.force s)) low to x (through w l) within (waits ∷ ws) (evaluated h (begun_catch h s))) force
        (subst (λ (u : State). Comes symbols graphs rank (inner (begun_catch a.force s)) low to x (through w l) within (waits ∷ ws) (evaluated a.force u)) (spent_none (begun_catch a.force s))
        (part body inner_force within (waits ∷ ws) (begun_catch a.force s) at refl))))))
      where
        inner_force : Force
        inner_force = with_catch (first_of_values vs) s.next_entry a.force

        waits : Waiting
        waits = Landing s.next_entry true (record { block = block; cont = to; charges = record { cost = 0; levels = (through w l).levels; boxing = (through w l).boxing } }) a.force

        within : Activation
        within = with_force inner_force (having (without_all (j ∷ []) a.delivered) a)

        inner : State → Machine
        inner u = going (at_spot (next r) within) (waits ∷ ws) u

        evaluated : Force → Run Vals
        evaluated h = eval call limit (around facts false false (with_catch (first_of_values vs) s.next_entry h)) c

    pub catch_does : (t w : Bool) (pl : Place) (e c : Core) (n : ℕ) (l : Passes) (low : ℕ) (to : Option ℕ) (p q : Spot) →
        ((j : ℕ) (r : Spot) → StandsAt g facts rank false false e (n + 1) none low (Some j) p r → Does symbols graphs number g facts rank there call limit false false e (n + 1) none low (Some j) p r) →
        ((r x : Spot) → StandsAt g facts rank false false c 0 (through w l) low to r x → Does symbols graphs number g facts rank there call limit false false c 0 (through w l) low to r x) →
        StandsAt g facts rank t w (Catch pl e c) n l low to p q → Does symbols graphs number g facts rank there call limit t w (Catch pl e c) n l low to p q
    unfolding eval visit first perform catch_round new_entry stack_at spend counting change pure_run ◌>>=ʳ◌ begun_catch
    catch_does t w pl e c n l low to p q first_part second_part (j, exits, r, x, block, free, tag_stands, here, body, closes, ends, end) f a ws s at force =
        subst (λ (y : Spot). Comes symbols graphs rank (going (at_spot p a) ws s) low to y l a ws (whole (eval call limit (around facts false false f) e (spent 1 (spent n s))))) (sym end)
        (subst (Comes symbols graphs rank (going (at_spot p a) ws s) low to (first_of block) l a ws) (regroup (eval call limit (around facts false false f) e (spent 1 (spent n s))))
        (comes_then symbols graphs rank (going (at_spot p a) ws s) low j r (first_of block) to l a ws (eval call limit (around facts false false f) e (spent 1 (spent n s))) _ free.0
        (subst (λ (u : State). Comes symbols graphs rank (going (at_spot p a) ws s) low (Some j) r none a ws (eval call limit (around facts false false f) e u)) (sym (spent_both n 1 s)) (first_part j r tag_stands f a ws s at force))
        (λ vs s1 d kept holds. catch_second w pl c l low to r x f j block exits (having d a) ws s1 vs (second_part (next r) x) at force free holds here body closes ends)))
      where
        whole : Outcome Vals → Outcome Vals
        whole o = and_then (and_then (and_then o (λ vs. pure_run (first_of_values vs))) (λ v. perform new_entry >>=ʳ (λ m. perform (stack_at (f.words + 8)) >>=ʳ (λ _. catch_round m (eval call limit (around facts false false (with_catch v m f)) c))))) (λ us. perform (deliver w us))

        regroup : (o : Outcome Vals) → and_then o (λ vs s1. and_then (arrive s1.next_entry true (eval call limit (around facts false false (with_catch (first_of_values vs) s1.next_entry f)) c (begun_catch f s1))) (λ us. perform (deliver w us)))
            ≡ whole o
        regroup (Gives vs s) = refl
        regroup (Leaves e s) = refl
        regroup (Fails x pl s) = refl
        regroup (NotYet s) = refl
