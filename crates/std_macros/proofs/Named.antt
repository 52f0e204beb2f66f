-- The names of words and macros stand where their numbers say.
use Rattle.std.specs.Prelude.{refl}
use Rattle.lisp_base.specs.BaseNames.{base_names, builtin_macros, lambda_list_names, left_out_names, helper_names}
use Rattle.std_macros.specs.declared.words.Word.TheVariants as w
use Rattle.std_macros.specs.declared.macros.Macro.TheVariants as m
use Rattle.std_macros.specs.Words.{EachWordIsNamed}
use Rattle.std_macros.specs.Macros.{EachMacroIsNamed, AreTheMacros, OthersAreNone}

pub each_word : EachWordIsNamed
unfolding base_names lambda_list_names left_out_names helper_names
each_word w.Nil = refl
each_word w.T = refl
each_word w.Quote = refl
each_word w.Function = refl
each_word w.Quasiquote = refl
each_word w.Unquote = refl
each_word w.UnquoteSplicing = refl
each_word w.Integer = refl
each_word w.Cons = refl
each_word w.List = refl
each_word w.Member = refl
each_word w.And = refl
each_word w.Or = refl
each_word w.Declare = refl
each_word w.Car = refl
each_word w.Cdr = refl
each_word w.Rplaca = refl
each_word w.Rplacd = refl
each_word w.Svref = refl
each_word w.Schar = refl
each_word w.SetSvref = refl
each_word w.SetSchar = refl
each_word w.Add = refl
each_word w.Subtract = refl
each_word w.NotLess = refl
each_word w.SymbolValue = refl
each_word w.SetValue = refl
each_word w.Setq = refl
each_word w.If = refl
each_word w.Progn = refl
each_word w.Let = refl
each_word w.LetInOrder = refl
each_word w.The = refl
each_word w.Block = refl
each_word w.ReturnFrom = refl
each_word w.Tagbody = refl
each_word w.Go = refl
each_word w.MultipleValueCall = refl
each_word w.Typep = refl
each_word w.Optional = refl
each_word w.RestOf = refl
each_word w.Cond = refl
each_word w.Otherwise = refl
each_word w.Return = refl
each_word w.Prog1 = refl
each_word w.Psetq = refl
each_word w.Setf = refl
each_word w.MultipleValueList = refl
each_word w.Lambda = refl
each_word w.Char = refl
each_word w.First = refl
each_word w.Rest = refl
each_word w.Nth = refl
each_word w.Aref = refl
each_word w.Append = refl
each_word w.SetNth = refl
each_word w.SetAref = refl

pub each_macro : EachMacroIsNamed
unfolding base_names lambda_list_names left_out_names helper_names
each_macro m.And = refl
each_macro m.Or = refl
each_macro m.Cond = refl
each_macro m.When = refl
each_macro m.Unless = refl
each_macro m.Case = refl
each_macro m.Ecase = refl
each_macro m.Typecase = refl
each_macro m.Etypecase = refl
each_macro m.Loop = refl
each_macro m.Do = refl
each_macro m.DoInOrder = refl
each_macro m.Dotimes = refl
each_macro m.Dolist = refl
each_macro m.Return = refl
each_macro m.Prog = refl
each_macro m.ProgInOrder = refl
each_macro m.Prog1 = refl
each_macro m.Prog2 = refl
each_macro m.Psetq = refl
each_macro m.Setf = refl
each_macro m.Incf = refl
each_macro m.Decf = refl
each_macro m.Push = refl
each_macro m.Pop = refl
each_macro m.MultipleValueBind = refl
each_macro m.MultipleValueList = refl
each_macro m.MultipleValueSetq = refl
each_macro m.NthValue = refl
each_macro m.Lambda = refl
each_macro m.Quasiquote = refl

pub are_the_macros : AreTheMacros
unfolding builtin_macros
are_the_macros = refl

pub others_are_none : OthersAreNone
unfolding base_names builtin_macros lambda_list_names left_out_names helper_names
others_are_none = refl
