-- Expansion gives checked trees, in which only functions are given to symbols. (This project's own.)
use Rattle.std.specs.Prelude.{◌≡◌, ℕ, true, List, All}
use Rattle.lisp_base.specs.declared.values.SymId.{SymId}
use Rattle.lisp_base.specs.declared.values.Val.{Val}
use Rattle.core_form.specs.Tree.{Core}
use Rattle.core_form.specs.Facts.{has_number, at_nodes}
use Rattle.core_form.specs.Checked as checked
use Rattle.core_form.specs.Checked.{is_checked}
use Rattle.core_form.specs.Lawful.{gives_function, function_set}
use Rattle.expansion.specs.declared.heads.Target.{Target}
use Rattle.expansion.specs.declared.heads.Target.TheVariants.{Lexical, Global}
use Rattle.expansion.specs.Scopes.{Scope}
use Rattle.expansion.specs.Steps.{World, gives}
use Rattle.expansion.specs.Expanding.{expand}

-- a variable's name means one of these variables, or the value of a symbol
abbrev pub Means : List ℕ → Target → Type 0
Means xs (Lexical n) = has_number n xs ≡ true
Means xs (Global s) = Unit {0}

-- what names mean in a scope is bound round the node: its variables, local functions, blocks and tags
pub record Holds (sc : Scope) (round : checked.Scope) : Type 0 where
  pub variables : All (λ (p : SymId × Target). Means round.variables p.1) sc.variables
  pub functions : All (λ (p : SymId × ℕ). has_number p.1 round.functions ≡ true) sc.functions
  pub blocks : All (λ (p : SymId × ℕ). has_number p.1 round.blocks ≡ true) sc.blocks
  pub tags : All (λ (p : Val × ℕ). has_number p.1 round.tags ≡ true) sc.tags

-- each number that a form's tree uses is bound round it, and operators have as many forms as they may
abbrev pub TreesAreChecked : Type 0
TreesAreChecked = (fuel levels chain : ℕ) (sc : Scope) (round : checked.Scope) (v : Val) (w after : World) (e : Core) →
    Holds sc round → expand fuel levels chain sc v w ≡ gives e after → is_checked round e ≡ true

-- what a form's tree gives to a symbol as its function is a function
abbrev pub SymbolsHaveFunctions : Type 0
SymbolsHaveFunctions = (fuel levels chain : ℕ) (sc : Scope) (v : Val) (w after : World) (e : Core) →
    expand fuel levels chain sc v w ≡ gives e after → All (λ f. gives_function f ≡ true) (at_nodes function_set e)
