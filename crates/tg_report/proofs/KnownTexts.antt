-- Texts that are known by hand.
use Rattle.std.specs.Prelude.{◌≡◌, ℕ, ◌∷◌, [], List, map, codes, decimal, true, false}
use Rattle.std.proofs.Common.{refl}
use Rattle.tg_grammar.specs.Seen.{Seen}
use Rattle.tg_model.specs.Theory.{Theory, Constructor}
use Rattle.tg_model.specs.Tree.{Tree, one, two, more, none, bound, free, literal, truth, con, put, choice, case, bind, op, end, arm, less}
use Rattle.tg_model.specs.Tree.{plus, successor, negation}
use Rattle.tg_model.specs.Types as types
use Rattle.tg_model.specs.Formula as formulas
use Rattle.tg_render.specs.Render as render
use Rattle.tg_render.specs.Render.{render}
use Rattle.tg_report.specs.TypeTexts.{ty_tokens}
use Rattle.tg_report.specs.TermTexts.{term_tokens}
use Rattle.tg_report.specs.FormulaTexts.{formula_tokens}

-- lists, pairs of two types, and the program `put`
abbrev pub constructor : List ℕ → List types.Ty → Constructor
constructor name args = record { name = name; arguments = args }

abbrev pub sample : Theory
sample = record {
  name = codes "Sample";
  datatypes =
      (record { name = codes "list"; parameters = 1; constructors = constructor (codes "Nil") [] ∷ constructor (codes "Cons") [] ∷ [] })
      ∷ (record { name = codes "pair"; parameters = 2; constructors = constructor (codes "Pair") [] ∷ [] }) ∷ [];
  functions = [];
  program = record { name = codes "put"; inputs = []; answer = types.nat };
  specification = truth true;
}

abbrev term : ℕ → Tree → List ℕ
term level t = render (term_tokens sample level t)

abbrev ty : types.Ty → List ℕ
ty t = render (ty_tokens sample t)

one_argument : ty (types.applied 1 (types.more types.nat types.none)) ≡ codes "(nat list)"
unfolding render.put
one_argument = refl

two_arguments : ty (types.applied 2 (types.more types.nat (types.more (types.applied 1 (types.more types.bool types.none)) types.none)))
    ≡ codes "((nat, (bool list)) pair)"
unfolding render.put
two_arguments = refl

bare : ty (types.applied 1 types.none) ≡ codes "list"
unfolding render.put
bare = refl

no_type : ty (types.applied 3 types.none) ≡ []
unfolding render.put
no_type = refl

truths : term 0 (choice (more (truth true) (two (con 1 none) (put (one (con 1 none)))))) ≡ codes "(if True then Nil else (put Nil))"
unfolding render.put
truths = refl

not_true : term 0 (op negation (one (truth true))) ≡ codes "(~ True)"
unfolding render.put
not_true = refl

next_of_nothing : term 0 (op successor (one (con 1 none))) ≡ codes "(Suc Nil)"
unfolding render.put
next_of_nothing = refl

compared : term 0 (op less (two (con 1 none) (op plus (two (con 1 none) (con 3 none))))) ≡ codes "(Nil < (Nil + Pair))"
unfolding render.put
compared = refl

-- ---- with numbers, as tokens

abbrev words : List Seen → List (List ℕ)
words ts = map (λ (s : Seen). s.text) ts

-- the variables of a branch are numbered on from those outside
branches : words (term_tokens sample 0 (case 1 (con 1 none) (arm 0 (truth true) (arm 2 (op less (two (bound 1) (bound 0))) end))))
    ≡ codes "(" ∷ codes "case" ∷ codes "Nil" ∷ codes "of" ∷ codes "{" ∷ codes "Nil" ∷ codes "=>" ∷ codes "True" ∷ codes ","
    ∷ codes "Cons" ∷ codes "!" ∷ decimal 1 ∷ codes "!" ∷ decimal 2 ∷ codes "=>"
    ∷ codes "(" ∷ codes "!" ∷ decimal 1 ∷ codes "<" ∷ codes "!" ∷ decimal 2 ∷ codes ")" ∷ codes "}" ∷ codes ")" ∷ []
branches = refl

naturals : words (term_tokens sample 1 (case 0 (bound 0) (arm 0 (literal 7) (arm 1 (bound 1) end))))
    ≡ codes "(" ∷ codes "case" ∷ codes "!" ∷ decimal 1 ∷ codes "of" ∷ codes "{" ∷ decimal 0 ∷ codes "=>" ∷ decimal 7 ∷ codes ","
    ∷ codes "Suc" ∷ codes "!" ∷ decimal 2 ∷ codes "=>" ∷ codes "!" ∷ decimal 1 ∷ codes "}" ∷ codes ")" ∷ []
naturals = refl

bound_first : words (term_tokens sample 0 (bind (free 3) (op plus (two (bound 0) (free 3)))))
    ≡ codes "(" ∷ codes "let" ∷ codes "!" ∷ decimal 1 ∷ codes "=" ∷ codes "?" ∷ decimal 3 ∷ codes "in"
    ∷ codes "(" ∷ codes "!" ∷ decimal 1 ∷ codes "+" ∷ codes "?" ∷ decimal 3 ∷ codes ")" ∷ codes ")" ∷ []
bound_first = refl

-- the outermost quantifier's variable is `!1`
quantified : words (formula_tokens sample 0 (formulas.all types.nat (formulas.some types.bool (formulas.atom (op less (two (bound 1) (bound 0)))))))
    ≡ codes "(" ∷ codes "ALL" ∷ codes "nat" ∷ codes "." ∷ codes "(" ∷ codes "EX" ∷ codes "bool" ∷ codes "." ∷ codes "["
    ∷ codes "(" ∷ codes "!" ∷ decimal 1 ∷ codes "<" ∷ codes "!" ∷ decimal 2 ∷ codes ")" ∷ codes "]" ∷ codes ")" ∷ codes ")" ∷ []
quantified = refl

deeper : words (formula_tokens sample 0 (formulas.deep 3 (two (con 1 none) (con 3 none))))
    ≡ codes "(" ∷ codes "deep" ∷ decimal 3 ∷ codes "Nil" ∷ codes "Pair" ∷ codes ")" ∷ []
deeper = refl

hypothesis : render (formula_tokens sample 0 (formulas.thyp (formulas.implies (formulas.tested (one (con 1 none))) (formulas.atom (truth true)))))
    ≡ codes "(THYP ((tested Nil) --> [True]))"
unfolding render.put
hypothesis = refl

conjoined : render (formula_tokens sample 0 (formulas.both (formulas.atom (truth false)) (formulas.all types.nat (formulas.atom (truth true)))))
    ≡ codes "([False] & (ALL nat. [True]))"
unfolding render.put
conjoined = refl
