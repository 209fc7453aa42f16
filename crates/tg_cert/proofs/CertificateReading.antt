-- The text of a certificate is a text of the grammar.
use Rattle.std.proofs.Common.{ℕ, zero, suc, ◌≡◌, ◌+◌, ◌<◌, ◌^◌, true, List, [], ◌∷◌, ◌++◌, map, length, Some, None, inl, inr, refl, sym, ◌∙◌, ap, subst, arith, append_assoc, append-nil}
use Prim.Native.String.{String}
use Rattle.std.specs.Prelude.{codes, slice_get}
use Rattle.tg_model.specs.Accepted.{IsAccepted}
use Rattle.tg_model.specs.Formula as model
use Rattle.tg_model.specs.Formula.{Formula, Sequent}
use Rattle.tg_model.specs.TermTyping.{AllTyped}
use Rattle.tg_model.specs.Theory.{Theory, AreClosed, numbered}
use Rattle.tg_model.specs.Tree as tree
use Rattle.tg_model.specs.Tree.{Tree, Trees, elements}
use Rattle.tg_model.specs.Types.{Ty, tys}
use Rattle.tg_rules.specs.Rule.{nt, has}
use Rattle.tg_rules.specs.Texts.{Is}
use Rattle.tg_rules.proofs.Heights.{by_rule}
use Rattle.tg_rows.specs.Parts.{and_then}
use Rattle.tg_rows.specs.Rows.{Row, rows, row}
use Rattle.tg_calculus.specs.Book.{Line, Entry, IsBook, Follow, IsInstance, premises_at}
use Rattle.tg_calculus.specs.Book as book
use Rattle.tg_calculus.specs.Rule as rule
use Rattle.tg_calculus.specs.Rule.{Rule}
use Rattle.tg_calculus.specs.Sequent.{Context}
use Rattle.tg_calculus.specs.Step as step
use Rattle.tg_calculus.specs.Step.{Step, IsFormula}
use Rattle.tg_calculus.proofs.FromDraft.{then_found}
use Rattle.tg_grammar.specs.declared.certificates.Argument.{Argument}
use Rattle.tg_grammar.specs.declared.certificates.Argument.TheVariants as arguments
use Rattle.tg_grammar.specs.declared.certificates.RawLine.{RawLine}
use Rattle.tg_grammar.specs.Kinds as kinds
use Rattle.tg_grammar.specs.Kinds.{open_brace, close_brace, semicolon, other_word}
use Rattle.tg_grammar.specs.Making.{no_arguments, with_arguments, of_rule}
use Rattle.tg_grammar.specs.Notation.{Grammar, quoted, number, ◌▸◌, ◌◂◌}
use Rattle.tg_grammar.specs.Page.{page}
use Rattle.tg_grammar.specs.Parts as parts
use Rattle.tg_grammar.specs.Parts.{in_certificate}
use Rattle.tg_grammar.specs.Reading.{IsText, kind}
use Rattle.tg_grammar.specs.Seen.{Seen, word_kind}
use Rattle.tg_grammar.specs.Steps.{argument}
use Rattle.tg_grammar.specs.Steps as grammar
use Rattle.tg_theory.specs.Wholes.{IsWritten}
use Rattle.tg_render.specs.Laws.{AreAllProper}
use Rattle.tg_render.specs.Tokens.{mark, name, numeral, continued, joined, AreProper, IsNameWord}
use Rattle.tg_render.proofs.Proper.{words, numerals as proper_numeral}
use Rattle.tg_render.proofs.Forward.{lines_back}
use Rattle.tg_report.specs.FormulaTexts.{formula_tokens}
use Rattle.tg_report.specs.RawFormulas.{raw_formula, FormulaHasText}
use Rattle.tg_report.specs.RawTerms.{raw_term, raw_terms, HasText, HaveText}
use Rattle.tg_report.specs.RawTypes.{raw_ty}
use Rattle.tg_report.specs.TermTexts.{term_tokens, terms_tokens}
use Rattle.tg_report.specs.TypeTexts.{ty_tokens}
use Rattle.tg_report.specs.Words.{comma}
use Rattle.tg_report.proofs.FormulaReading.{formula as formula_part}
use Rattle.tg_report.proofs.ProperTokens.{IsPart, made, proper-append, symbol, keyword, number_kinds}
use Rattle.tg_report.proofs.TermReading.{atom as term_part, atoms as term_parts, all_of}
use Rattle.tg_report.proofs.TypeReading.{atom as type_part}
use Rattle.tg_report.proofs.TypedTexts.{typed_has_text, well_formed_has_text}
use Rattle.tg_cert.specs.CertificateTexts.{rule_token, row_name, numerals, context_tokens, first_tokens, last_tokens, line_tokens, lines_from, certificate_lines}
use Rattle.tg_cert.specs.ReadBack.{arguments_in, raw_line, raw_lines, AreBelow, HaveSmallNumbers, MayHaveSmallNumbers, IsSmall, AreSmall, CertificatesAreTexts}
use Rattle.tg_cert.proofs.LinesBack.{Fit, fits, read_in, EachTyped}

-- ---- the rows' names are words

abbrev IsWordOf : ℕ → Type 0
IsWordOf k = IsNameWord (row_name k)

abbrev AreWords : ℕ → List Row → Type 0
AreWords k [] = Unit {0}
AreWords k (f ∷ fs) = IsWordOf k × AreWords (suc k) fs

all_words : (th : Theory) → AreWords 1 (rows th)
unfolding word_kind
all_words th = ((refl, refl), ((refl, refl), ((refl, refl), ((refl, refl), ((refl, refl), ((refl, refl), ((refl, refl), ((refl, refl), ((refl, refl), ((refl, refl), ((refl, refl), ((refl, refl), ((refl, refl), ((refl, refl), ((refl, refl), ((refl, refl), ((refl, refl), ((refl, refl), ((refl, refl), ((refl, refl), ((refl, refl), ((refl, refl), ((refl, refl), ((refl, refl), ((refl, refl), ((refl, refl), ((refl, refl), ((refl, refl), ((refl, refl), ((refl, refl), ((refl, refl), ((refl, refl), ((refl, refl), ((refl, refl), ((refl, refl), ((refl, refl), ((refl, refl), ((refl, refl), ((refl, refl), ((refl, refl), ((refl, refl), ((refl, refl), ((refl, refl), ((refl, refl), ((refl, refl), ((refl, refl), ((refl, refl), ((refl, refl), tt))))))))))))))))))))))))))))))))))))))))))))))))

word_at : (fs : List Row) (k i : ℕ) (f : Row) → AreWords k fs → slice_get fs i ≡ Some f → IsWordOf (k + i)
word_at [] k i f h e = cc e
word_at (g ∷ fs) k zero f h e = let z : k + 0 ≡ k = omega arith in subst IsWordOf (sym z) h.0
word_at (g ∷ fs) k (suc i) f h e = let z : suc k + i ≡ k + suc i = omega arith in subst IsWordOf z (word_at fs (suc k) i f h.1 e)

row_word : (th : Theory) (k : ℕ) (t u : Tree) → row th k t ≡ Some u → IsWordOf k
row_word th k t u e = then_found (numbered (rows th) k) (λ f. f t) u e (λ f a b. at k f a)
  where
    at : (k : ℕ) (f : Row) → numbered (rows th) k ≡ Some f → IsWordOf k
    at zero f a = cc a
    at (suc i) f a = let z : 1 + i ≡ suc i = omega arith in subst IsWordOf z (word_at (rows th) 1 i f (all_words th) a)

-- ---- what stands behind one another

after : {A : Type 0} (text : String) (g : Grammar A) (v : A) (t : Seen) (ts : List Seen) → has (quoted text ∷ []) t.kind ≡ true → Is kind IsText g v ts
    → Is kind IsText (text ▸ g) v (t ∷ ts)
after text g v t ts h m = ((t, v), refl, (t ∷ [], ts, (h, refl), m, refl))

before : {A : Type 0} (text : String) (g : Grammar A) (v : A) (t : Seen) (ts : List Seen) → has (quoted text ∷ []) t.kind ≡ true → Is kind IsText g v ts
    → Is kind IsText (g ◂ text) v (ts ++ t ∷ [])
before text g v t ts h m = ((v, t), refl, (ts, t ∷ [], m, (h, refl), refl))

a_number : (n : ℕ) → Is kind IsText number n (numeral n ∷ [])
a_number n = (numeral n, refl, (number_kinds n, refl))

-- ---- arguments

pub record IsArgument (a : Argument) (v : RawLine) (ts : List Seen) : Type 0 where
  pub proper : AreProper ts
  pub read : Is kind IsText (argument a) v ts

pub record AreArguments (a : Argument) (bs : List Argument) (v : RawLine) (ts : List Seen) : Type 0 where
  pub proper : AreProper ts
  pub read : Is kind IsText (grammar.arguments a bs) v ts

alone : (a : Argument) (v : RawLine) (ts : List Seen) → IsArgument a v ts → AreArguments a [] v ts
alone a v ts h = record { proper = h.proper; read = h.read }

and_more : (a b : Argument) (bs : List Argument) (v w : RawLine) (ts us : List Seen) → IsArgument a v ts → AreArguments b bs w us
    → AreArguments a (b ∷ bs) (with_arguments v w) (ts ++ us)
and_more a b bs v w ts us h k =
    record { proper = proper-append ts us h.proper k.proper; read = ((v, w), refl, (ts, us, h.read, k.read, refl)) }

a_number_argument : (n : ℕ) → n < 2 ^ 64 → IsArgument arguments.Number (record no_arguments { nums = n ∷ [] }) (numeral n ∷ [])
a_number_argument n h = record { proper = (proper_numeral n h, tt); read = (n, refl, a_number n) }

numbers_part : (ns : List ℕ) → AreBelow ns → IsPart parts.Numbers ns (numerals ns)
numbers_part [] h = made parts.Numbers [] [] tt (None, refl, inl (refl, refl))
numbers_part (n ∷ ns) h =
    let rest = numbers_part ns h.1 in
    made parts.Numbers (n ∷ ns) (numerals (n ∷ ns)) (proper_numeral n h.0, rest.proper)
    (Some (n, ns), refl, inr ((n, ns), refl, (numeral n ∷ [], numerals ns, a_number n, rest.read, refl)))

numbers_argument : (ns : List ℕ) → AreBelow ns → IsArgument arguments.Numbers (record no_arguments { nums = ns }) (numerals ns)
numbers_argument ns h = let p = numbers_part ns h in record { proper = p.proper; read = (ns, refl, p.read) }

word_argument : (k : ℕ) → IsWordOf k → IsArgument arguments.Word (record no_arguments { word = Some (row_name k) }) (name (row_name k) ∷ [])
word_argument k w = record { proper = (words (row_name k) w.0, tt); read = (row_name k, refl, (name (row_name k), refl, (w.1, refl))) }

module _ (th : Theory) (written : IsWritten th) where
  -- ---- contexts

  more_types : (ts : List Ty) → AreClosed th (tys ts) → IsPart parts.MoreTypeAtoms (map (raw_ty th) ts) (continued comma (map (ty_tokens th) ts))
  more_types [] c = made parts.MoreTypeAtoms [] [] tt (None, refl, inl (refl, refl))
  more_types (t ∷ ts) c =
      let first = type_part th t written c.0 in
      let rest = more_types ts c.1 in
      let xs = ty_tokens th t in
      let ys = continued comma (map (ty_tokens th) ts) in
      let v = raw_ty th t in
      let vs = map (raw_ty th) ts in
      made parts.MoreTypeAtoms (v ∷ vs) (comma ∷ (xs ++ ys)) (symbol kinds.comma (codes ",") refl, proper-append xs ys first.proper rest.proper)
      (Some (v, vs), refl, inr ((v, vs), refl, ((comma, (v, vs)), refl, (comma ∷ [], xs ++ ys, (refl, refl), (xs, ys, first.read, rest.read, refl), refl))))

  context_part : (G : List Ty) → AreClosed th (tys G) → IsPart parts.Context (map (raw_ty th) G) (context_tokens th G)
  context_part [] c =
      let l = mark open_brace (codes "{") in
      let r = mark close_brace (codes "}") in
      made parts.Context [] (l ∷ r ∷ []) (symbol open_brace (codes "{") refl, (symbol close_brace (codes "}") refl, tt))
      (None, refl, ((l, None), refl, (l ∷ [], r ∷ [], (refl, refl), ((None, r), refl, ([], r ∷ [], inl (refl, refl), (refl, refl), refl)), refl)))
  context_part (t ∷ ts) c =
      let l = mark open_brace (codes "{") in
      let r = mark close_brace (codes "}") in
      let first = type_part th t written c.0 in
      let rest = more_types ts c.1 in
      let xs = ty_tokens th t in
      let ys = continued comma (map (ty_tokens th) ts) in
      let v = raw_ty th t in
      let vs = map (raw_ty th) ts in
      made parts.Context (v ∷ vs) (l ∷ ((xs ++ ys) ++ r ∷ []))
      (symbol open_brace (codes "{") refl, proper-append (xs ++ ys) (r ∷ []) (proper-append xs ys first.proper rest.proper) (symbol close_brace (codes "}") refl, tt)) (
        Some (v ∷ vs),
        refl,
        (
          (l, Some (v ∷ vs)),
          refl,
          (
            l ∷ [],
            (xs ++ ys) ++ r ∷ [],
            (refl, refl),
            (
              (Some (v ∷ vs), r),
              refl,
              (xs ++ ys, r ∷ [], inr (v ∷ vs, refl, ((v, vs), refl, (xs, ys, first.read, rest.read, refl))), (refl, refl), refl),
            ),
            refl,
          ),
        ),
      )

  context_argument : (G : List Ty) → AreClosed th (tys G) → IsArgument arguments.Context (record no_arguments { vars = map (raw_ty th) G }) (context_tokens th G)
  context_argument G c = let p = context_part G c in record { proper = p.proper; read = (map (raw_ty th) G, refl, p.read) }

  formula_argument : (F : Formula) → FormulaHasText th 0 F
      → IsArgument arguments.Formula (record no_arguments { formula = Some (raw_formula th 0 F) }) (formula_tokens th 0 F)
  formula_argument F h = let p = formula_part th 0 F written h in record { proper = p.proper; read = (raw_formula th 0 F, refl, p.read) }

  atom_argument : (t : Tree) → HasText th 0 t → IsArgument arguments.Atom (record no_arguments { terms = raw_term th 0 t ∷ [] }) (term_tokens th 0 t)
  atom_argument t h = let p = term_part th 0 t written h in record { proper = p.proper; read = (raw_term th 0 t, refl, p.read) }

  atoms_argument : (ts : Trees) → HaveText th 0 ts
      → IsArgument arguments.Atoms (record no_arguments { terms = raw_terms th 0 ts }) (joined (terms_tokens th 0 ts))
  atoms_argument ts h =
      let p = all_of (raw_terms th 0 ts) (terms_tokens th 0 ts) (term_parts th 0 ts written h) in
      record { proper = p.proper; read = (raw_terms th 0 ts, refl, p.read) }

  listed_terms : (ts : Trees) → map (raw_term th 0) (elements ts) ≡ raw_terms th 0 ts
  listed_terms tree.none = refl
  listed_terms (tree.more t ts) = ap (λ l. raw_term th 0 t ∷ l) (listed_terms ts)

  -- ---- steps

  abbrev line : Rule → List ℕ → Line
  line r ns = record { rule = r; premises = ns }

  abbrev step_tokens : Line → List Seen
  step_tokens l = rule_token l.rule ∷ (first_tokens th l.rule ++ (numerals l.premises ++ last_tokens th l.rule))

  abbrev IsStep : Rule → List ℕ → Type 0
  IsStep r ns = IsPart parts.Step (raw_line th 0 (line r ns)) (step_tokens (line r ns))

  hyp_step : (G : Context) (F : Formula) → AreClosed th (tys G) → FormulaHasText th 0 F → IsStep (rule.hyp G F) ([])
  unfolding word_kind
  hyp_step G F c f =
      let args : AreArguments arguments.Context (arguments.Formula ∷ []) (with_arguments (record no_arguments { vars = map (raw_ty th) G }) (record no_arguments { formula = Some (raw_formula th 0 F) })) ((context_tokens th G) ++ (formula_tokens th 0 F)) = and_more arguments.Context arguments.Formula ([]) (record no_arguments { vars = map (raw_ty th) G }) (record no_arguments { formula = Some (raw_formula th 0 F) }) (context_tokens th G) (formula_tokens th 0 F) (context_argument G c) (alone arguments.Formula (record no_arguments { formula = Some (raw_formula th 0 F) }) (formula_tokens th 0 F) (formula_argument F f)) in
      made parts.Step (raw_line th 0 (line (rule.hyp G F) ([]))) ((rule_token (rule.hyp G F)) ∷ ((context_tokens th G) ++ (formula_tokens th 0 F))) (keyword 81 (codes "hyp") refl refl, args.proper)
      (inl (((rule_token (rule.hyp G F)), (with_arguments (record no_arguments { vars = map (raw_ty th) G }) (record no_arguments { formula = Some (raw_formula th 0 F) }))), (λ x. record (of_rule 81 (with_arguments (record no_arguments { vars = map (raw_ty th) G }) (record no_arguments { formula = Some (raw_formula th 0 F) }))) { vars = sym (append-nil (map (raw_ty th) G)) x }), ((rule_token (rule.hyp G F)) ∷ [], ((context_tokens th G) ++ (formula_tokens th 0 F)), (refl, refl), args.read, refl)))

  weak_step : (F : Formula) (i : ℕ) → FormulaHasText th 0 F → i < 2 ^ 64 → IsStep (rule.weak F) (i ∷ [])
  unfolding word_kind
  weak_step F i f a =
      let args : AreArguments arguments.Number (arguments.Formula ∷ []) (with_arguments (record no_arguments { nums = i ∷ [] }) (record no_arguments { formula = Some (raw_formula th 0 F) })) ((numeral i ∷ []) ++ (formula_tokens th 0 F)) = and_more arguments.Number arguments.Formula ([]) (record no_arguments { nums = i ∷ [] }) (record no_arguments { formula = Some (raw_formula th 0 F) }) (numeral i ∷ []) (formula_tokens th 0 F) (a_number_argument i a) (alone arguments.Formula (record no_arguments { formula = Some (raw_formula th 0 F) }) (formula_tokens th 0 F) (formula_argument F f)) in
      made parts.Step (raw_line th 0 (line (rule.weak F) (i ∷ []))) ((rule_token (rule.weak F)) ∷ ((numeral i ∷ []) ++ (formula_tokens th 0 F))) (keyword 82 (codes "weak") refl refl, args.proper)
      (inr (inl (((rule_token (rule.weak F)), (with_arguments (record no_arguments { nums = i ∷ [] }) (record no_arguments { formula = Some (raw_formula th 0 F) }))), refl, ((rule_token (rule.weak F)) ∷ [], ((numeral i ∷ []) ++ (formula_tokens th 0 F)), (refl, refl), args.read, refl))))

  cut_step : (i : ℕ) (j : ℕ) → i < 2 ^ 64 → j < 2 ^ 64 → IsStep rule.cut (i ∷ j ∷ [])
  unfolding word_kind
  cut_step i j a b =
      let args : AreArguments arguments.Number (arguments.Number ∷ []) (with_arguments (record no_arguments { nums = i ∷ [] }) (record no_arguments { nums = j ∷ [] })) ((numeral i ∷ []) ++ (numeral j ∷ [])) = and_more arguments.Number arguments.Number ([]) (record no_arguments { nums = i ∷ [] }) (record no_arguments { nums = j ∷ [] }) (numeral i ∷ []) (numeral j ∷ []) (a_number_argument i a) (alone arguments.Number (record no_arguments { nums = j ∷ [] }) (numeral j ∷ []) (a_number_argument j b)) in
      made parts.Step (raw_line th 0 (line rule.cut (i ∷ j ∷ []))) ((rule_token rule.cut) ∷ ((numeral i ∷ []) ++ (numeral j ∷ []))) (keyword 83 (codes "cut") refl refl, args.proper)
      (inr (inr (inl (((rule_token rule.cut), (with_arguments (record no_arguments { nums = i ∷ [] }) (record no_arguments { nums = j ∷ [] }))), refl, ((rule_token rule.cut) ∷ [], ((numeral i ∷ []) ++ (numeral j ∷ [])), (refl, refl), args.read, refl)))))

  grow_step : (Ts : Context) (i : ℕ) → AreClosed th (tys Ts) → i < 2 ^ 64 → IsStep (rule.grow Ts) (i ∷ [])
  unfolding word_kind
  grow_step Ts i c a =
      let args : AreArguments arguments.Number (arguments.Context ∷ []) (with_arguments (record no_arguments { nums = i ∷ [] }) (record no_arguments { vars = map (raw_ty th) Ts })) ((numeral i ∷ []) ++ (context_tokens th Ts)) = and_more arguments.Number arguments.Context ([]) (record no_arguments { nums = i ∷ [] }) (record no_arguments { vars = map (raw_ty th) Ts }) (numeral i ∷ []) (context_tokens th Ts) (a_number_argument i a) (alone arguments.Context (record no_arguments { vars = map (raw_ty th) Ts }) (context_tokens th Ts) (context_argument Ts c)) in
      made parts.Step (raw_line th 0 (line (rule.grow Ts) (i ∷ []))) ((rule_token (rule.grow Ts)) ∷ ((numeral i ∷ []) ++ (context_tokens th Ts))) (keyword 84 (codes "grow") refl refl, args.proper)
      (inr (inr (inr (inl (((rule_token (rule.grow Ts)), (with_arguments (record no_arguments { nums = i ∷ [] }) (record no_arguments { vars = map (raw_ty th) Ts }))), refl, ((rule_token (rule.grow Ts)) ∷ [], ((numeral i ∷ []) ++ (context_tokens th Ts)), (refl, refl), args.read, refl))))))

  and_i_step : (i : ℕ) (j : ℕ) → i < 2 ^ 64 → j < 2 ^ 64 → IsStep rule.and_i (i ∷ j ∷ [])
  unfolding word_kind
  and_i_step i j a b =
      let args : AreArguments arguments.Number (arguments.Number ∷ []) (with_arguments (record no_arguments { nums = i ∷ [] }) (record no_arguments { nums = j ∷ [] })) ((numeral i ∷ []) ++ (numeral j ∷ [])) = and_more arguments.Number arguments.Number ([]) (record no_arguments { nums = i ∷ [] }) (record no_arguments { nums = j ∷ [] }) (numeral i ∷ []) (numeral j ∷ []) (a_number_argument i a) (alone arguments.Number (record no_arguments { nums = j ∷ [] }) (numeral j ∷ []) (a_number_argument j b)) in
      made parts.Step (raw_line th 0 (line rule.and_i (i ∷ j ∷ []))) ((rule_token rule.and_i) ∷ ((numeral i ∷ []) ++ (numeral j ∷ []))) (keyword 85 (codes "andI") refl refl, args.proper)
      (inr (inr (inr (inr (inl (((rule_token rule.and_i), (with_arguments (record no_arguments { nums = i ∷ [] }) (record no_arguments { nums = j ∷ [] }))), refl, ((rule_token rule.and_i) ∷ [], ((numeral i ∷ []) ++ (numeral j ∷ [])), (refl, refl), args.read, refl)))))))

  and_l_step : (i : ℕ) → i < 2 ^ 64 → IsStep rule.and_l (i ∷ [])
  unfolding word_kind
  and_l_step i a =
      let args : AreArguments arguments.Number ([]) (record no_arguments { nums = i ∷ [] }) (numeral i ∷ []) = alone arguments.Number (record no_arguments { nums = i ∷ [] }) (numeral i ∷ []) (a_number_argument i a) in
      made parts.Step (raw_line th 0 (line rule.and_l (i ∷ []))) ((rule_token rule.and_l) ∷ (numeral i ∷ [])) (keyword 86 (codes "andL") refl refl, args.proper)
      (inr (inr (inr (inr (inr (inl (((rule_token rule.and_l), (record no_arguments { nums = i ∷ [] })), refl, ((rule_token rule.and_l) ∷ [], (numeral i ∷ []), (refl, refl), args.read, refl))))))))

  and_r_step : (i : ℕ) → i < 2 ^ 64 → IsStep rule.and_r (i ∷ [])
  unfolding word_kind
  and_r_step i a =
      let args : AreArguments arguments.Number ([]) (record no_arguments { nums = i ∷ [] }) (numeral i ∷ []) = alone arguments.Number (record no_arguments { nums = i ∷ [] }) (numeral i ∷ []) (a_number_argument i a) in
      made parts.Step (raw_line th 0 (line rule.and_r (i ∷ []))) ((rule_token rule.and_r) ∷ (numeral i ∷ [])) (keyword 87 (codes "andR") refl refl, args.proper)
      (inr (inr (inr (inr (inr (inr (inl (((rule_token rule.and_r), (record no_arguments { nums = i ∷ [] })), refl, ((rule_token rule.and_r) ∷ [], (numeral i ∷ []), (refl, refl), args.read, refl)))))))))

  imp_i_step : (F : Formula) (i : ℕ) → FormulaHasText th 0 F → i < 2 ^ 64 → IsStep (rule.imp_i F) (i ∷ [])
  unfolding word_kind
  imp_i_step F i f a =
      let args : AreArguments arguments.Number (arguments.Formula ∷ []) (with_arguments (record no_arguments { nums = i ∷ [] }) (record no_arguments { formula = Some (raw_formula th 0 F) })) ((numeral i ∷ []) ++ (formula_tokens th 0 F)) = and_more arguments.Number arguments.Formula ([]) (record no_arguments { nums = i ∷ [] }) (record no_arguments { formula = Some (raw_formula th 0 F) }) (numeral i ∷ []) (formula_tokens th 0 F) (a_number_argument i a) (alone arguments.Formula (record no_arguments { formula = Some (raw_formula th 0 F) }) (formula_tokens th 0 F) (formula_argument F f)) in
      made parts.Step (raw_line th 0 (line (rule.imp_i F) (i ∷ []))) ((rule_token (rule.imp_i F)) ∷ ((numeral i ∷ []) ++ (formula_tokens th 0 F))) (keyword 88 (codes "impI") refl refl, args.proper)
      (inr (inr (inr (inr (inr (inr (inr (inl (((rule_token (rule.imp_i F)), (with_arguments (record no_arguments { nums = i ∷ [] }) (record no_arguments { formula = Some (raw_formula th 0 F) }))), refl, ((rule_token (rule.imp_i F)) ∷ [], ((numeral i ∷ []) ++ (formula_tokens th 0 F)), (refl, refl), args.read, refl))))))))))

  mp_step : (i : ℕ) (j : ℕ) → i < 2 ^ 64 → j < 2 ^ 64 → IsStep rule.mp (i ∷ j ∷ [])
  unfolding word_kind
  mp_step i j a b =
      let args : AreArguments arguments.Number (arguments.Number ∷ []) (with_arguments (record no_arguments { nums = i ∷ [] }) (record no_arguments { nums = j ∷ [] })) ((numeral i ∷ []) ++ (numeral j ∷ [])) = and_more arguments.Number arguments.Number ([]) (record no_arguments { nums = i ∷ [] }) (record no_arguments { nums = j ∷ [] }) (numeral i ∷ []) (numeral j ∷ []) (a_number_argument i a) (alone arguments.Number (record no_arguments { nums = j ∷ [] }) (numeral j ∷ []) (a_number_argument j b)) in
      made parts.Step (raw_line th 0 (line rule.mp (i ∷ j ∷ []))) ((rule_token rule.mp) ∷ ((numeral i ∷ []) ++ (numeral j ∷ []))) (keyword 89 (codes "mp") refl refl, args.proper)
      (inr (inr (inr (inr (inr (inr (inr (inr (inl (((rule_token rule.mp), (with_arguments (record no_arguments { nums = i ∷ [] }) (record no_arguments { nums = j ∷ [] }))), refl, ((rule_token rule.mp) ∷ [], ((numeral i ∷ []) ++ (numeral j ∷ [])), (refl, refl), args.read, refl)))))))))))

  all_i_step : (i : ℕ) → i < 2 ^ 64 → IsStep rule.all_i (i ∷ [])
  unfolding word_kind
  all_i_step i a =
      let args : AreArguments arguments.Number ([]) (record no_arguments { nums = i ∷ [] }) (numeral i ∷ []) = alone arguments.Number (record no_arguments { nums = i ∷ [] }) (numeral i ∷ []) (a_number_argument i a) in
      made parts.Step (raw_line th 0 (line rule.all_i (i ∷ []))) ((rule_token rule.all_i) ∷ (numeral i ∷ [])) (keyword 90 (codes "allI") refl refl, args.proper)
      (inr (inr (inr (inr (inr (inr (inr (inr (inr (inl (((rule_token rule.all_i), (record no_arguments { nums = i ∷ [] })), refl, ((rule_token rule.all_i) ∷ [], (numeral i ∷ []), (refl, refl), args.read, refl))))))))))))

  all_e_step : (t : Tree) (i : ℕ) → HasText th 0 t → i < 2 ^ 64 → IsStep (rule.all_e t) (i ∷ [])
  unfolding word_kind
  all_e_step t i h a =
      let args : AreArguments arguments.Number (arguments.Atom ∷ []) (with_arguments (record no_arguments { nums = i ∷ [] }) (record no_arguments { terms = raw_term th 0 t ∷ [] })) ((numeral i ∷ []) ++ (term_tokens th 0 t)) = and_more arguments.Number arguments.Atom ([]) (record no_arguments { nums = i ∷ [] }) (record no_arguments { terms = raw_term th 0 t ∷ [] }) (numeral i ∷ []) (term_tokens th 0 t) (a_number_argument i a) (alone arguments.Atom (record no_arguments { terms = raw_term th 0 t ∷ [] }) (term_tokens th 0 t) (atom_argument t h)) in
      made parts.Step (raw_line th 0 (line (rule.all_e t) (i ∷ []))) ((rule_token (rule.all_e t)) ∷ ((numeral i ∷ []) ++ (term_tokens th 0 t))) (keyword 91 (codes "allE") refl refl, args.proper)
      (inr (inr (inr (inr (inr (inr (inr (inr (inr (inr (inl (((rule_token (rule.all_e t)), (with_arguments (record no_arguments { nums = i ∷ [] }) (record no_arguments { terms = raw_term th 0 t ∷ [] }))), refl, ((rule_token (rule.all_e t)) ∷ [], ((numeral i ∷ []) ++ (term_tokens th 0 t)), (refl, refl), args.read, refl)))))))))))))

  ex_i_step : (F : Formula) (t : Tree) (i : ℕ) → FormulaHasText th 0 F → HasText th 0 t → i < 2 ^ 64 → IsStep (rule.ex_i F t) (i ∷ [])
  unfolding word_kind
  ex_i_step F t i f h a =
      let args : AreArguments arguments.Number (arguments.Formula ∷ arguments.Atom ∷ []) (with_arguments (record no_arguments { nums = i ∷ [] }) (with_arguments (record no_arguments { formula = Some (raw_formula th 0 F) }) (record no_arguments { terms = raw_term th 0 t ∷ [] }))) ((numeral i ∷ []) ++ ((formula_tokens th 0 F) ++ (term_tokens th 0 t))) = and_more arguments.Number arguments.Formula (arguments.Atom ∷ []) (record no_arguments { nums = i ∷ [] }) (with_arguments (record no_arguments { formula = Some (raw_formula th 0 F) }) (record no_arguments { terms = raw_term th 0 t ∷ [] })) (numeral i ∷ []) ((formula_tokens th 0 F) ++ (term_tokens th 0 t)) (a_number_argument i a) (and_more arguments.Formula arguments.Atom ([]) (record no_arguments { formula = Some (raw_formula th 0 F) }) (record no_arguments { terms = raw_term th 0 t ∷ [] }) (formula_tokens th 0 F) (term_tokens th 0 t) (formula_argument F f) (alone arguments.Atom (record no_arguments { terms = raw_term th 0 t ∷ [] }) (term_tokens th 0 t) (atom_argument t h))) in
      made parts.Step (raw_line th 0 (line (rule.ex_i F t) (i ∷ []))) ((rule_token (rule.ex_i F t)) ∷ ((numeral i ∷ []) ++ ((formula_tokens th 0 F) ++ (term_tokens th 0 t)))) (keyword 92 (codes "exI") refl refl, args.proper)
      (inr (inr (inr (inr (inr (inr (inr (inr (inr (inr (inr (inl (((rule_token (rule.ex_i F t)), (with_arguments (record no_arguments { nums = i ∷ [] }) (with_arguments (record no_arguments { formula = Some (raw_formula th 0 F) }) (record no_arguments { terms = raw_term th 0 t ∷ [] })))), refl, ((rule_token (rule.ex_i F t)) ∷ [], ((numeral i ∷ []) ++ ((formula_tokens th 0 F) ++ (term_tokens th 0 t))), (refl, refl), args.read, refl))))))))))))))

  ex_e_step : (i : ℕ) (j : ℕ) → i < 2 ^ 64 → j < 2 ^ 64 → IsStep rule.ex_e (i ∷ j ∷ [])
  unfolding word_kind
  ex_e_step i j a b =
      let args : AreArguments arguments.Number (arguments.Number ∷ []) (with_arguments (record no_arguments { nums = i ∷ [] }) (record no_arguments { nums = j ∷ [] })) ((numeral i ∷ []) ++ (numeral j ∷ [])) = and_more arguments.Number arguments.Number ([]) (record no_arguments { nums = i ∷ [] }) (record no_arguments { nums = j ∷ [] }) (numeral i ∷ []) (numeral j ∷ []) (a_number_argument i a) (alone arguments.Number (record no_arguments { nums = j ∷ [] }) (numeral j ∷ []) (a_number_argument j b)) in
      made parts.Step (raw_line th 0 (line rule.ex_e (i ∷ j ∷ []))) ((rule_token rule.ex_e) ∷ ((numeral i ∷ []) ++ (numeral j ∷ []))) (keyword 93 (codes "exE") refl refl, args.proper)
      (inr (inr (inr (inr (inr (inr (inr (inr (inr (inr (inr (inr (inl (((rule_token rule.ex_e), (with_arguments (record no_arguments { nums = i ∷ [] }) (record no_arguments { nums = j ∷ [] }))), refl, ((rule_token rule.ex_e) ∷ [], ((numeral i ∷ []) ++ (numeral j ∷ [])), (refl, refl), args.read, refl)))))))))))))))

  thyp_i_step : (i : ℕ) → i < 2 ^ 64 → IsStep rule.thyp_i (i ∷ [])
  unfolding word_kind
  thyp_i_step i a =
      let args : AreArguments arguments.Number ([]) (record no_arguments { nums = i ∷ [] }) (numeral i ∷ []) = alone arguments.Number (record no_arguments { nums = i ∷ [] }) (numeral i ∷ []) (a_number_argument i a) in
      made parts.Step (raw_line th 0 (line rule.thyp_i (i ∷ []))) ((rule_token rule.thyp_i) ∷ (numeral i ∷ [])) (keyword 94 (codes "thypI") refl refl, args.proper)
      (inr (inr (inr (inr (inr (inr (inr (inr (inr (inr (inr (inr (inr (inl (((rule_token rule.thyp_i), (record no_arguments { nums = i ∷ [] })), refl, ((rule_token rule.thyp_i) ∷ [], (numeral i ∷ []), (refl, refl), args.read, refl))))))))))))))))

  thyp_e_step : (i : ℕ) → i < 2 ^ 64 → IsStep rule.thyp_e (i ∷ [])
  unfolding word_kind
  thyp_e_step i a =
      let args : AreArguments arguments.Number ([]) (record no_arguments { nums = i ∷ [] }) (numeral i ∷ []) = alone arguments.Number (record no_arguments { nums = i ∷ [] }) (numeral i ∷ []) (a_number_argument i a) in
      made parts.Step (raw_line th 0 (line rule.thyp_e (i ∷ []))) ((rule_token rule.thyp_e) ∷ (numeral i ∷ [])) (keyword 95 (codes "thypE") refl refl, args.proper)
      (inr (inr (inr (inr (inr (inr (inr (inr (inr (inr (inr (inr (inr (inr (inl (((rule_token rule.thyp_e), (record no_arguments { nums = i ∷ [] })), refl, ((rule_token rule.thyp_e) ∷ [], (numeral i ∷ []), (refl, refl), args.read, refl)))))))))))))))))

  truth_step : (G : Context) → AreClosed th (tys G) → IsStep (rule.truth G) ([])
  unfolding word_kind
  truth_step G c =
      let args : AreArguments arguments.Context ([]) (record no_arguments { vars = map (raw_ty th) G }) (context_tokens th G) = alone arguments.Context (record no_arguments { vars = map (raw_ty th) G }) (context_tokens th G) (context_argument G c) in
      subst (λ (us : List Seen). IsPart parts.Step (raw_line th 0 (line (rule.truth G) ([]))) ((rule_token (rule.truth G)) ∷ us)) (sym (append-nil (context_tokens th G)))
      (made parts.Step (raw_line th 0 (line (rule.truth G) ([]))) ((rule_token (rule.truth G)) ∷ (context_tokens th G)) (keyword 96 (codes "true") refl refl, args.proper)
      (inr (inr (inr (inr (inr (inr (inr (inr (inr (inr (inr (inr (inr (inr (inr (inl (((rule_token (rule.truth G)), (record no_arguments { vars = map (raw_ty th) G })), refl, ((rule_token (rule.truth G)) ∷ [], (context_tokens th G), (refl, refl), args.read, refl)))))))))))))))))))

  falsity_step : (F : Formula) (i : ℕ) → FormulaHasText th 0 F → i < 2 ^ 64 → IsStep (rule.falsity F) (i ∷ [])
  unfolding word_kind
  falsity_step F i f a =
      let args : AreArguments arguments.Number (arguments.Formula ∷ []) (with_arguments (record no_arguments { nums = i ∷ [] }) (record no_arguments { formula = Some (raw_formula th 0 F) })) ((numeral i ∷ []) ++ (formula_tokens th 0 F)) = and_more arguments.Number arguments.Formula ([]) (record no_arguments { nums = i ∷ [] }) (record no_arguments { formula = Some (raw_formula th 0 F) }) (numeral i ∷ []) (formula_tokens th 0 F) (a_number_argument i a) (alone arguments.Formula (record no_arguments { formula = Some (raw_formula th 0 F) }) (formula_tokens th 0 F) (formula_argument F f)) in
      made parts.Step (raw_line th 0 (line (rule.falsity F) (i ∷ []))) ((rule_token (rule.falsity F)) ∷ ((numeral i ∷ []) ++ (formula_tokens th 0 F))) (keyword 97 (codes "false") refl refl, args.proper)
      (inr (inr (inr (inr (inr (inr (inr (inr (inr (inr (inr (inr (inr (inr (inr (inr (inl (((rule_token (rule.falsity F)), (with_arguments (record no_arguments { nums = i ∷ [] }) (record no_arguments { formula = Some (raw_formula th 0 F) }))), refl, ((rule_token (rule.falsity F)) ∷ [], ((numeral i ∷ []) ++ (formula_tokens th 0 F)), (refl, refl), args.read, refl)))))))))))))))))))

  split_step : (t : Tree) (i : ℕ) (j : ℕ) → HasText th 0 t → i < 2 ^ 64 → j < 2 ^ 64 → IsStep (rule.split t) (i ∷ j ∷ [])
  unfolding word_kind
  split_step t i j h a b =
      let args : AreArguments arguments.Number (arguments.Number ∷ arguments.Atom ∷ []) (with_arguments (record no_arguments { nums = i ∷ [] }) (with_arguments (record no_arguments { nums = j ∷ [] }) (record no_arguments { terms = raw_term th 0 t ∷ [] }))) ((numeral i ∷ []) ++ ((numeral j ∷ []) ++ (term_tokens th 0 t))) = and_more arguments.Number arguments.Number (arguments.Atom ∷ []) (record no_arguments { nums = i ∷ [] }) (with_arguments (record no_arguments { nums = j ∷ [] }) (record no_arguments { terms = raw_term th 0 t ∷ [] })) (numeral i ∷ []) ((numeral j ∷ []) ++ (term_tokens th 0 t)) (a_number_argument i a) (and_more arguments.Number arguments.Atom ([]) (record no_arguments { nums = j ∷ [] }) (record no_arguments { terms = raw_term th 0 t ∷ [] }) (numeral j ∷ []) (term_tokens th 0 t) (a_number_argument j b) (alone arguments.Atom (record no_arguments { terms = raw_term th 0 t ∷ [] }) (term_tokens th 0 t) (atom_argument t h))) in
      made parts.Step (raw_line th 0 (line (rule.split t) (i ∷ j ∷ []))) ((rule_token (rule.split t)) ∷ ((numeral i ∷ []) ++ ((numeral j ∷ []) ++ (term_tokens th 0 t)))) (keyword 98 (codes "split") refl refl, args.proper)
      (inr (inr (inr (inr (inr (inr (inr (inr (inr (inr (inr (inr (inr (inr (inr (inr (inr (inl (((rule_token (rule.split t)), (with_arguments (record no_arguments { nums = i ∷ [] }) (with_arguments (record no_arguments { nums = j ∷ [] }) (record no_arguments { terms = raw_term th 0 t ∷ [] })))), refl, ((rule_token (rule.split t)) ∷ [], ((numeral i ∷ []) ++ ((numeral j ∷ []) ++ (term_tokens th 0 t))), (refl, refl), args.read, refl))))))))))))))))))))

  reflexive_step : (G : Context) (t : Tree) → AreClosed th (tys G) → HasText th 0 t → IsStep (rule.reflexive G t) ([])
  unfolding word_kind
  reflexive_step G t c h =
      let args : AreArguments arguments.Context (arguments.Atom ∷ []) (with_arguments (record no_arguments { vars = map (raw_ty th) G }) (record no_arguments { terms = raw_term th 0 t ∷ [] })) ((context_tokens th G) ++ (term_tokens th 0 t)) = and_more arguments.Context arguments.Atom ([]) (record no_arguments { vars = map (raw_ty th) G }) (record no_arguments { terms = raw_term th 0 t ∷ [] }) (context_tokens th G) (term_tokens th 0 t) (context_argument G c) (alone arguments.Atom (record no_arguments { terms = raw_term th 0 t ∷ [] }) (term_tokens th 0 t) (atom_argument t h)) in
      made parts.Step (raw_line th 0 (line (rule.reflexive G t) ([]))) ((rule_token (rule.reflexive G t)) ∷ ((context_tokens th G) ++ (term_tokens th 0 t))) (keyword 99 (codes "refl") refl refl, args.proper)
      (inr (inr (inr (inr (inr (inr (inr (inr (inr (inr (inr (inr (inr (inr (inr (inr (inr (inr (inl (((rule_token (rule.reflexive G t)), (with_arguments (record no_arguments { vars = map (raw_ty th) G }) (record no_arguments { terms = raw_term th 0 t ∷ [] }))), (λ x. record (of_rule 99 (with_arguments (record no_arguments { vars = map (raw_ty th) G }) (record no_arguments { terms = raw_term th 0 t ∷ [] }))) { vars = sym (append-nil (map (raw_ty th) G)) x }), ((rule_token (rule.reflexive G t)) ∷ [], ((context_tokens th G) ++ (term_tokens th 0 t)), (refl, refl), args.read, refl)))))))))))))))))))))

  symmetric_step : (i : ℕ) → i < 2 ^ 64 → IsStep rule.symmetric (i ∷ [])
  unfolding word_kind
  symmetric_step i a =
      let args : AreArguments arguments.Number ([]) (record no_arguments { nums = i ∷ [] }) (numeral i ∷ []) = alone arguments.Number (record no_arguments { nums = i ∷ [] }) (numeral i ∷ []) (a_number_argument i a) in
      made parts.Step (raw_line th 0 (line rule.symmetric (i ∷ []))) ((rule_token rule.symmetric) ∷ (numeral i ∷ [])) (keyword 100 (codes "sym") refl refl, args.proper)
      (inr (inr (inr (inr (inr (inr (inr (inr (inr (inr (inr (inr (inr (inr (inr (inr (inr (inr (inr (inl (((rule_token rule.symmetric), (record no_arguments { nums = i ∷ [] })), refl, ((rule_token rule.symmetric) ∷ [], (numeral i ∷ []), (refl, refl), args.read, refl))))))))))))))))))))))

  transitive_step : (i : ℕ) (j : ℕ) → i < 2 ^ 64 → j < 2 ^ 64 → IsStep rule.transitive (i ∷ j ∷ [])
  unfolding word_kind
  transitive_step i j a b =
      let args : AreArguments arguments.Number (arguments.Number ∷ []) (with_arguments (record no_arguments { nums = i ∷ [] }) (record no_arguments { nums = j ∷ [] })) ((numeral i ∷ []) ++ (numeral j ∷ [])) = and_more arguments.Number arguments.Number ([]) (record no_arguments { nums = i ∷ [] }) (record no_arguments { nums = j ∷ [] }) (numeral i ∷ []) (numeral j ∷ []) (a_number_argument i a) (alone arguments.Number (record no_arguments { nums = j ∷ [] }) (numeral j ∷ []) (a_number_argument j b)) in
      made parts.Step (raw_line th 0 (line rule.transitive (i ∷ j ∷ []))) ((rule_token rule.transitive) ∷ ((numeral i ∷ []) ++ (numeral j ∷ []))) (keyword 101 (codes "trans") refl refl, args.proper)
      (inr (inr (inr (inr (inr (inr (inr (inr (inr (inr (inr (inr (inr (inr (inr (inr (inr (inr (inr (inr (inl (((rule_token rule.transitive), (with_arguments (record no_arguments { nums = i ∷ [] }) (record no_arguments { nums = j ∷ [] }))), refl, ((rule_token rule.transitive) ∷ [], ((numeral i ∷ []) ++ (numeral j ∷ [])), (refl, refl), args.read, refl)))))))))))))))))))))))

  replace_step : (F : Formula) (i : ℕ) (j : ℕ) → FormulaHasText th 0 F → i < 2 ^ 64 → j < 2 ^ 64 → IsStep (rule.replace F) (i ∷ j ∷ [])
  unfolding word_kind
  replace_step F i j f a b =
      let args : AreArguments arguments.Number (arguments.Number ∷ arguments.Formula ∷ []) (with_arguments (record no_arguments { nums = i ∷ [] }) (with_arguments (record no_arguments { nums = j ∷ [] }) (record no_arguments { formula = Some (raw_formula th 0 F) }))) ((numeral i ∷ []) ++ ((numeral j ∷ []) ++ (formula_tokens th 0 F))) = and_more arguments.Number arguments.Number (arguments.Formula ∷ []) (record no_arguments { nums = i ∷ [] }) (with_arguments (record no_arguments { nums = j ∷ [] }) (record no_arguments { formula = Some (raw_formula th 0 F) })) (numeral i ∷ []) ((numeral j ∷ []) ++ (formula_tokens th 0 F)) (a_number_argument i a) (and_more arguments.Number arguments.Formula ([]) (record no_arguments { nums = j ∷ [] }) (record no_arguments { formula = Some (raw_formula th 0 F) }) (numeral j ∷ []) (formula_tokens th 0 F) (a_number_argument j b) (alone arguments.Formula (record no_arguments { formula = Some (raw_formula th 0 F) }) (formula_tokens th 0 F) (formula_argument F f))) in
      made parts.Step (raw_line th 0 (line (rule.replace F) (i ∷ j ∷ []))) ((rule_token (rule.replace F)) ∷ ((numeral i ∷ []) ++ ((numeral j ∷ []) ++ (formula_tokens th 0 F)))) (keyword 102 (codes "replace") refl refl, args.proper)
      (inr (inr (inr (inr (inr (inr (inr (inr (inr (inr (inr (inr (inr (inr (inr (inr (inr (inr (inr (inr (inr (inl (((rule_token (rule.replace F)), (with_arguments (record no_arguments { nums = i ∷ [] }) (with_arguments (record no_arguments { nums = j ∷ [] }) (record no_arguments { formula = Some (raw_formula th 0 F) })))), refl, ((rule_token (rule.replace F)) ∷ [], ((numeral i ∷ []) ++ ((numeral j ∷ []) ++ (formula_tokens th 0 F))), (refl, refl), args.read, refl))))))))))))))))))))))))

  schema_step : (G : Context) (k : ℕ) (t : Tree) → AreClosed th (tys G) → HasText th 0 t → IsWordOf k → IsStep (rule.schema G k t) ([])
  unfolding word_kind
  schema_step G k t c h w =
      let args : AreArguments arguments.Context (arguments.Word ∷ arguments.Atom ∷ []) (with_arguments (record no_arguments { vars = map (raw_ty th) G }) (with_arguments (record no_arguments { word = Some (row_name k) }) (record no_arguments { terms = raw_term th 0 t ∷ [] }))) ((context_tokens th G) ++ ((name (row_name k) ∷ []) ++ (term_tokens th 0 t))) = and_more arguments.Context arguments.Word (arguments.Atom ∷ []) (record no_arguments { vars = map (raw_ty th) G }) (with_arguments (record no_arguments { word = Some (row_name k) }) (record no_arguments { terms = raw_term th 0 t ∷ [] })) (context_tokens th G) ((name (row_name k) ∷ []) ++ (term_tokens th 0 t)) (context_argument G c) (and_more arguments.Word arguments.Atom ([]) (record no_arguments { word = Some (row_name k) }) (record no_arguments { terms = raw_term th 0 t ∷ [] }) (name (row_name k) ∷ []) (term_tokens th 0 t) (word_argument k w) (alone arguments.Atom (record no_arguments { terms = raw_term th 0 t ∷ [] }) (term_tokens th 0 t) (atom_argument t h))) in
      subst (λ (us : List Seen). IsPart parts.Step (raw_line th 0 (line (rule.schema G k t) ([]))) ((rule_token (rule.schema G k t)) ∷ us)) (sym (append_assoc (context_tokens th G) (name (row_name k) ∷ []) (term_tokens th 0 t)))
      (made parts.Step (raw_line th 0 (line (rule.schema G k t) ([]))) ((rule_token (rule.schema G k t)) ∷ ((context_tokens th G) ++ ((name (row_name k) ∷ []) ++ (term_tokens th 0 t)))) (keyword 103 (codes "schema") refl refl, args.proper)
      (inr (inr (inr (inr (inr (inr (inr (inr (inr (inr (inr (inr (inr (inr (inr (inr (inr (inr (inr (inr (inr (inr (inl (((rule_token (rule.schema G k t)), (with_arguments (record no_arguments { vars = map (raw_ty th) G }) (with_arguments (record no_arguments { word = Some (row_name k) }) (record no_arguments { terms = raw_term th 0 t ∷ [] })))), (λ x. record (of_rule 103 (with_arguments (record no_arguments { vars = map (raw_ty th) G }) (with_arguments (record no_arguments { word = Some (row_name k) }) (record no_arguments { terms = raw_term th 0 t ∷ [] })))) { vars = sym (append-nil (map (raw_ty th) G)) x }), ((rule_token (rule.schema G k t)) ∷ [], ((context_tokens th G) ++ ((name (row_name k) ∷ []) ++ (term_tokens th 0 t))), (refl, refl), args.read, refl))))))))))))))))))))))))))

  exhaust_step : (n : ℕ) (i : ℕ) (ns : List ℕ) → n < 2 ^ 64 → i < 2 ^ 64 → AreBelow ns → IsStep (rule.exhaust n) (i ∷ ns)
  unfolding word_kind
  exhaust_step n i ns m a q =
      let args : AreArguments arguments.Number (arguments.Number ∷ arguments.Numbers ∷ []) (with_arguments (record no_arguments { nums = n ∷ [] }) (with_arguments (record no_arguments { nums = i ∷ [] }) (record no_arguments { nums = ns }))) ((numeral n ∷ []) ++ ((numeral i ∷ []) ++ (numerals ns))) = and_more arguments.Number arguments.Number (arguments.Numbers ∷ []) (record no_arguments { nums = n ∷ [] }) (with_arguments (record no_arguments { nums = i ∷ [] }) (record no_arguments { nums = ns })) (numeral n ∷ []) ((numeral i ∷ []) ++ (numerals ns)) (a_number_argument n m) (and_more arguments.Number arguments.Numbers ([]) (record no_arguments { nums = i ∷ [] }) (record no_arguments { nums = ns }) (numeral i ∷ []) (numerals ns) (a_number_argument i a) (alone arguments.Numbers (record no_arguments { nums = ns }) (numerals ns) (numbers_argument ns q))) in
      subst (λ (us : List Seen). IsPart parts.Step (raw_line th 0 (line (rule.exhaust n) (i ∷ ns))) ((rule_token (rule.exhaust n)) ∷ numeral n ∷ numeral i ∷ us)) (sym (append-nil (numerals ns)))
      (made parts.Step (raw_line th 0 (line (rule.exhaust n) (i ∷ ns))) ((rule_token (rule.exhaust n)) ∷ ((numeral n ∷ []) ++ ((numeral i ∷ []) ++ (numerals ns)))) (keyword 104 (codes "exhaust") refl refl, args.proper)
      (inr (inr (inr (inr (inr (inr (inr (inr (inr (inr (inr (inr (inr (inr (inr (inr (inr (inr (inr (inr (inr (inr (inr (inl (((rule_token (rule.exhaust n)), (with_arguments (record no_arguments { nums = n ∷ [] }) (with_arguments (record no_arguments { nums = i ∷ [] }) (record no_arguments { nums = ns })))), refl, ((rule_token (rule.exhaust n)) ∷ [], ((numeral n ∷ []) ++ ((numeral i ∷ []) ++ (numerals ns))), (refl, refl), args.read, refl)))))))))))))))))))))))))))

  deep_step : (G : Context) (k : ℕ) (t : Tree) (ts : Trees) → AreClosed th (tys G) → k < 2 ^ 64 → HasText th 0 t → HaveText th 0 ts → IsStep (rule.deep G k (tree.more t ts)) ([])
  unfolding word_kind
  deep_step G k t ts c m h hs =
      let args : AreArguments arguments.Context (arguments.Number ∷ arguments.Atom ∷ arguments.Atoms ∷ []) (with_arguments (record no_arguments { vars = map (raw_ty th) G }) (with_arguments (record no_arguments { nums = k ∷ [] }) (with_arguments (record no_arguments { terms = raw_term th 0 t ∷ [] }) (record no_arguments { terms = raw_terms th 0 ts })))) ((context_tokens th G) ++ ((numeral k ∷ []) ++ ((term_tokens th 0 t) ++ (joined (terms_tokens th 0 ts))))) = and_more arguments.Context arguments.Number (arguments.Atom ∷ arguments.Atoms ∷ []) (record no_arguments { vars = map (raw_ty th) G }) (with_arguments (record no_arguments { nums = k ∷ [] }) (with_arguments (record no_arguments { terms = raw_term th 0 t ∷ [] }) (record no_arguments { terms = raw_terms th 0 ts }))) (context_tokens th G) ((numeral k ∷ []) ++ ((term_tokens th 0 t) ++ (joined (terms_tokens th 0 ts)))) (context_argument G c) (and_more arguments.Number arguments.Atom (arguments.Atoms ∷ []) (record no_arguments { nums = k ∷ [] }) (with_arguments (record no_arguments { terms = raw_term th 0 t ∷ [] }) (record no_arguments { terms = raw_terms th 0 ts })) (numeral k ∷ []) ((term_tokens th 0 t) ++ (joined (terms_tokens th 0 ts))) (a_number_argument k m) (and_more arguments.Atom arguments.Atoms ([]) (record no_arguments { terms = raw_term th 0 t ∷ [] }) (record no_arguments { terms = raw_terms th 0 ts }) (term_tokens th 0 t) (joined (terms_tokens th 0 ts)) (atom_argument t h) (alone arguments.Atoms (record no_arguments { terms = raw_terms th 0 ts }) (joined (terms_tokens th 0 ts)) (atoms_argument ts hs)))) in
      subst (λ (us : List Seen). IsPart parts.Step (raw_line th 0 (line (rule.deep G k (tree.more t ts)) ([]))) ((rule_token (rule.deep G k (tree.more t ts))) ∷ us)) (sym (append_assoc (context_tokens th G) (numeral k ∷ []) (joined (terms_tokens th 0 (tree.more t ts)))))
      (made parts.Step (raw_line th 0 (line (rule.deep G k (tree.more t ts)) ([]))) ((rule_token (rule.deep G k (tree.more t ts))) ∷ ((context_tokens th G) ++ ((numeral k ∷ []) ++ ((term_tokens th 0 t) ++ (joined (terms_tokens th 0 ts)))))) (keyword 105 (codes "deep") refl refl, args.proper)
      (inr (inr (inr (inr (inr (inr (inr (inr (inr (inr (inr (inr (inr (inr (inr (inr (inr (inr (inr (inr (inr (inr (inr (inr (inl (((rule_token (rule.deep G k (tree.more t ts))), (with_arguments (record no_arguments { vars = map (raw_ty th) G }) (with_arguments (record no_arguments { nums = k ∷ [] }) (with_arguments (record no_arguments { terms = raw_term th 0 t ∷ [] }) (record no_arguments { terms = raw_terms th 0 ts }))))), (λ x. record (of_rule 105 (with_arguments (record no_arguments { vars = map (raw_ty th) G }) (with_arguments (record no_arguments { nums = k ∷ [] }) (with_arguments (record no_arguments { terms = raw_term th 0 t ∷ [] }) (record no_arguments { terms = raw_terms th 0 ts }))))) { vars = sym (append-nil (map (raw_ty th) G)) x; terms = raw_term th 0 t ∷ listed_terms ts x }), ((rule_token (rule.deep G k (tree.more t ts))) ∷ [], ((context_tokens th G) ++ ((numeral k ∷ []) ++ ((term_tokens th 0 t) ++ (joined (terms_tokens th 0 ts))))), (refl, refl), args.read, refl))))))))))))))))))))))))))))

  compute_step : (G : Context) (t : Tree) → AreClosed th (tys G) → HasText th 0 t → IsStep (rule.compute G t) ([])
  unfolding word_kind
  compute_step G t c h =
      let args : AreArguments arguments.Context (arguments.Atom ∷ []) (with_arguments (record no_arguments { vars = map (raw_ty th) G }) (record no_arguments { terms = raw_term th 0 t ∷ [] })) ((context_tokens th G) ++ (term_tokens th 0 t)) = and_more arguments.Context arguments.Atom ([]) (record no_arguments { vars = map (raw_ty th) G }) (record no_arguments { terms = raw_term th 0 t ∷ [] }) (context_tokens th G) (term_tokens th 0 t) (context_argument G c) (alone arguments.Atom (record no_arguments { terms = raw_term th 0 t ∷ [] }) (term_tokens th 0 t) (atom_argument t h)) in
      made parts.Step (raw_line th 0 (line (rule.compute G t) ([]))) ((rule_token (rule.compute G t)) ∷ ((context_tokens th G) ++ (term_tokens th 0 t))) (keyword 106 (codes "compute") refl refl, args.proper)
      (inr (inr (inr (inr (inr (inr (inr (inr (inr (inr (inr (inr (inr (inr (inr (inr (inr (inr (inr (inr (inr (inr (inr (inr (inr ((((rule_token (rule.compute G t)), (with_arguments (record no_arguments { vars = map (raw_ty th) G }) (record no_arguments { terms = raw_term th 0 t ∷ [] }))), (λ x. record (of_rule 106 (with_arguments (record no_arguments { vars = map (raw_ty th) G }) (record no_arguments { terms = raw_term th 0 t ∷ [] }))) { vars = sym (append-nil (map (raw_ty th) G)) x }), ((rule_token (rule.compute G t)) ∷ [], ((context_tokens th G) ++ (term_tokens th 0 t)), (refl, refl), args.read, refl))))))))))))))))))))))))))))

  -- ---- as many numbers as premises

  with_none : (r : Rule) (ns : List ℕ) → length ns ≡ 0 → IsStep r [] → IsStep r ns
  with_none r [] e h = h
  with_none r (n ∷ ns) e h = cc e

  with_one : (r : Rule) (ns : List ℕ) → length ns ≡ 1 → AreBelow ns → ((i : ℕ) → i < 2 ^ 64 → IsStep r (i ∷ [])) → IsStep r ns
  with_one r [] e b h = cc e
  with_one r (i ∷ []) e b h = h i b.0
  with_one r (i ∷ j ∷ ns) e b h = absurd (omega (arith, e))

  with_two : (r : Rule) (ns : List ℕ) → length ns ≡ 2 → AreBelow ns → ((i j : ℕ) → i < 2 ^ 64 → j < 2 ^ 64 → IsStep r (i ∷ j ∷ [])) → IsStep r ns
  with_two r [] e b h = cc e
  with_two r (i ∷ []) e b h = absurd (omega (arith, e))
  with_two r (i ∷ j ∷ []) e b h = h i j b.0 b.1.0
  with_two r (i ∷ j ∷ k ∷ ns) e b h = absurd (omega (arith, e))

  with_some : (r : Rule) (ns : List ℕ) (k : ℕ) → length ns ≡ suc k → AreBelow ns
      → ((i : ℕ) (ms : List ℕ) → i < 2 ^ 64 → AreBelow ms → IsStep r (i ∷ ms)) → IsStep r ns
  with_some r [] k e b h = cc e
  with_some r (i ∷ ns) k e b h = h i ns b.0 b.1

  -- ---- each line

  module _ (ok : IsAccepted th) where
    text_of : (G : Context) (F : Formula) → IsFormula th G F → MayHaveSmallNumbers (Some F) → FormulaHasText th 0 F
    text_of G F f s = well_formed_has_text th G [] F ok f s

    term_text : (G : Context) (t : Tree) (ts : List Tree) → EachTyped th G (t ∷ ts) → HaveSmallNumbers (t ∷ ts) → HasText th 0 t
    term_text G t ts h s = typed_has_text th G [] t h.0.0 ok h.0.1 s.0

    terms_text : (G : Context) (ts : Trees) → EachTyped th G (elements ts) → HaveSmallNumbers (elements ts) → HaveText th 0 ts
    terms_text G tree.none h s = tt
    terms_text G (tree.more t ts) h s = (term_text G t (elements ts) h s, terms_text G ts h.1 s.1)

    deep_part : (G : Context) (k : ℕ) (ts : Trees) (ns : List ℕ) → length ns ≡ 0 → AllTyped th G [] ts th.program.inputs
        → Fit th G (arguments_in (rule.deep G k ts)) → IsSmall (line (rule.deep G k ts) ns) → IsStep (rule.deep G k ts) ns
    deep_part G k tree.none ns e typed fit small = absurd (none th.program.inputs ok.some_input typed)
      where
        none : (us : List Ty) → 0 < length us → ¬ (AllTyped th G [] tree.none us)
        none [] h a = absurd (omega (arith, h))
        none (u ∷ us) h a = a
    deep_part G k (tree.more t ts) ns e typed fit small =
        with_none (rule.deep G k (tree.more t ts)) ns e
        (deep_step G k t ts fit.types small.number (term_text G t (elements ts) fit.terms small.terms) (terms_text G ts fit.terms.1 small.terms.1))

    part_of : (r : Rule) (ps : List Sequent) (s : Sequent) → Step th r ps s → (ns : List ℕ) → length ns ≡ length ps
        → Fit th (read_in th ps (arguments_in r).types) (arguments_in r) → IsSmall (line r ns) → IsStep r ns
    part_of r ps s (step.hyp {G} {F} c f) ns e fit small =
        with_none r ns e (hyp_step G F fit.types (text_of G F fit.formula small.formula))
    part_of r ps s (step.weak {G} {F} f) ns e fit small =
        with_one r ns e small.premises (λ i a. weak_step F i (text_of G F fit.formula small.formula) a)
    part_of r ps s step.cut ns e fit small = with_two r ns e small.premises (λ i j a b. cut_step i j a b)
    part_of r ps s (step.grow {Ts} c) ns e fit small = with_one r ns e small.premises (λ i a. grow_step Ts i fit.types a)
    part_of r ps s step.and_i ns e fit small = with_two r ns e small.premises (λ i j a b. and_i_step i j a b)
    part_of r ps s step.and_l ns e fit small = with_one r ns e small.premises (λ i a. and_l_step i a)
    part_of r ps s step.and_r ns e fit small = with_one r ns e small.premises (λ i a. and_r_step i a)
    part_of r ps s (step.imp_i {G} {F} f) ns e fit small =
        with_one r ns e small.premises (λ i a. imp_i_step F i (text_of G F fit.formula small.formula) a)
    part_of r ps s step.mp ns e fit small = with_two r ns e small.premises (λ i j a b. mp_step i j a b)
    part_of r ps s (step.all_i n) ns e fit small = with_one r ns e small.premises (λ i a. all_i_step i a)
    part_of r ps s (step.all_e {G} {t} h) ns e fit small =
        with_one r ns e small.premises (λ i a. all_e_step t i (term_text G t [] fit.terms small.terms) a)
    part_of r ps s (step.ex_i {G} {T} {F} {t} f h q) ns e fit small =
        with_one r ns e small.premises
        (λ i a. ex_i_step (model.some T F) t i (text_of G (model.some T F) fit.formula small.formula) (term_text G t [] fit.terms small.terms) a)
    part_of r ps s (step.ex_e q u v) ns e fit small = with_two r ns e small.premises (λ i j a b. ex_e_step i j a b)
    part_of r ps s step.thyp_i ns e fit small = with_one r ns e small.premises (λ i a. thyp_i_step i a)
    part_of r ps s step.thyp_e ns e fit small = with_one r ns e small.premises (λ i a. thyp_e_step i a)
    part_of r ps s (step.truth {G} c) ns e fit small = with_none r ns e (truth_step G fit.types)
    part_of r ps s (step.falsity {G} {F} f) ns e fit small =
        with_one r ns e small.premises (λ i a. falsity_step F i (text_of G F fit.formula small.formula) a)
    part_of r ps s (step.split {G} {t} h) ns e fit small =
        with_two r ns e small.premises (λ i j a b. split_step t i j (term_text G t [] fit.terms small.terms) a b)
    part_of r ps s (step.reflexive {G} {t} c f) ns e fit small =
        with_none r ns e (reflexive_step G t fit.types (term_text G t [] fit.terms small.terms))
    part_of r ps s step.symmetric ns e fit small = with_one r ns e small.premises (λ i a. symmetric_step i a)
    part_of r ps s (step.transitive f) ns e fit small = with_two r ns e small.premises (λ i j a b. transitive_step i j a b)
    part_of r ps s (step.replace {G} {F} q f) ns e fit small =
        with_two r ns e small.premises (λ i j a b. replace_step F i j (text_of G F fit.formula small.formula) a b)
    part_of r ps s (step.schema {G} {k} {t} {u} c q f) ns e fit small =
        with_none r ns e (schema_step G k t fit.types (term_text G t [] fit.terms small.terms) (row_word th k t u q))
    part_of r ps s (step.exhaust G {n} d Ts {ps = qs} at are) ns e fit small =
        with_some r ns (length qs) e small.premises (λ i ms a q. exhaust_step n i ms small.number a q)
    part_of r ps s (step.deep {G} {k} {ts} c f q) ns e fit small = deep_part G (suc k) ts ns e f fit small
    part_of r ps s (step.compute {G} {t} c f n q) ns e fit small =
        with_none r ns e (compute_step G t fit.types (term_text G t [] fit.terms small.terms))

    same_count : (done : List Sequent) (ns : List ℕ) (ps : List Sequent) → premises_at done ns ≡ Some ps → length ns ≡ length ps
    same_count done [] ps e = let q : [] ≡ ps = cc e in ap (λ (l : List Sequent). length l) q
    same_count done (n ∷ ns) ps e =
        then_found (numbered done n) (λ p. and_then (premises_at done ns) (λ qs. Some (p ∷ qs))) ps e
        (λ p a b. then_found (premises_at done ns) (λ qs. Some (p ∷ qs)) ps b
        (λ qs c d. let q : p ∷ qs ≡ ps = cc d in ap suc (same_count done ns qs c) ∙ ap (λ (l : List Sequent). length l) q))

    abbrev stop : Seen
    stop = mark semicolon (codes ";")

    regrouped : (xs ys zs : List Seen) → (xs ++ (ys ++ zs)) ++ stop ∷ [] ≡ xs ++ (ys ++ (zs ++ stop ∷ []))
    regrouped xs ys zs = append_assoc xs (ys ++ zs) (stop ∷ []) ∙ ap (λ l. xs ++ l) (append_assoc ys zs (stop ∷ []))

    line_part : (done : List Sequent) (n : ℕ) (l : Line) (s : Sequent) → IsInstance th done l s → n < 2 ^ 64 → IsSmall l
        → IsPart parts.Line (raw_line th n l) (line_tokens th n l)
    line_part done n l s i below small =
        let p = part_of l.rule i.premises s i.step l.premises (same_count done l.premises i.premises i.at) (fits th ok l.rule i.premises s i.step) small in
        let ts = step_tokens l in
        let same = ap (λ us. numeral n ∷ rule_token l.rule ∷ us) (regrouped (first_tokens th l.rule) (numerals l.premises) (last_tokens th l.rule)) in
        subst (λ (us : List Seen). IsPart parts.Line (raw_line th n l) us) same
        (made parts.Line (raw_line th n l) (numeral n ∷ (ts ++ stop ∷ []))
        (proper_numeral n below, proper-append ts (stop ∷ []) p.proper (symbol semicolon (codes ";") refl, tt))
        ((n, raw_line th 0 l), refl, (numeral n ∷ [], ts ++ stop ∷ [], a_number n, before ";" (nt parts.Step) (raw_line th 0 l) stop ts refl p.read, refl)))

    -- ---- all lines

    pub record AreParts (n : ℕ) (ls : List Line) : Type 0 where
      pub proper : AreAllProper (lines_from th n ls)
      pub read : IsText parts.Lines (raw_lines th n ls) (joined (lines_from th n ls))

    lines_part : (done : List Sequent) (n : ℕ) (es : List Entry) → Follow th done es → AreSmall n (book.lines es) → AreParts n (book.lines es)
    lines_part done n [] f s = record { proper = tt; read = by_rule kind page parts.Lines [] [] (None, refl, inl (refl, refl)) }
    lines_part done n (x ∷ es) f s =
        let first = line_part done n x.line x.sequent f.0 s.0 s.1 in
        let rest = lines_part (done ++ x.sequent ∷ []) (suc n) es f.1 s.2 in
        let v = raw_line th n x.line in
        let vs = raw_lines th (suc n) (book.lines es) in
        record {
          proper = (first.proper, rest.proper);
          read =
              by_rule kind page parts.Lines (v ∷ vs) (joined (lines_from th n (book.lines (x ∷ es))))
              (Some (v, vs), refl, inr ((v, vs), refl, (line_tokens th n x.line, joined (lines_from th (suc n) (book.lines es)), first.read, rest.read, refl)));
        }

    at_end : (tss : List (List Seen)) (t : Seen) → joined (tss ++ (t ∷ []) ∷ []) ≡ joined tss ++ t ∷ []
    at_end [] t = refl
    at_end (ts ∷ tss) t = ap (λ l. ts ++ l) (at_end tss t) ∙ sym (append_assoc ts (joined tss) (t ∷ []))

    ended : (tss : List (List Seen)) (t : Seen) → AreAllProper tss → AreProper (t ∷ []) → AreAllProper (tss ++ (t ∷ []) ∷ [])
    ended [] t h p = (p, tt)
    ended (ts ∷ tss) t h p = (h.0, ended tss t h.1 p)

    whole_read : (ls : List Line) → AreParts 1 ls
        → IsText parts.Certificate (record { lines = raw_lines th 1 ls }) (joined (certificate_lines th ls))
    unfolding word_kind
    whole_read ls p =
        let ts = joined (lines_from th 1 ls) in
        let end = name (codes "end") in
        let vs = raw_lines th 1 ls in
        let m0 = before "end" (nt parts.Lines) vs end ts refl p.read in
        let m1 = after "begin" (nt parts.Lines ◂ "end") vs (name (codes "begin")) (ts ++ end ∷ []) refl m0 in
        let m2 = after "1" ("begin" ▸ nt parts.Lines ◂ "end") vs (numeral 1) (name (codes "begin") ∷ (ts ++ end ∷ [])) refl m1 in
        let m3 =
        after "certificate" ("1" ▸ "begin" ▸ nt parts.Lines ◂ "end") vs (name (codes "certificate"))
        (numeral 1 ∷ name (codes "begin") ∷ (ts ++ end ∷ [])) refl m2
        in
        subst (λ (us : List Seen). IsText parts.Certificate (record { lines = vs }) (name (codes "certificate") ∷ numeral 1 ∷ name (codes "begin") ∷ us))
        (sym (at_end (lines_from th 1 ls) end))
        (by_rule kind page parts.Certificate (record { lines = vs }) (name (codes "certificate") ∷ numeral 1 ∷ name (codes "begin") ∷ (ts ++ end ∷ []))
        (vs, refl, m3))

    whole_proper : (ls : List Line) → AreParts 1 ls → AreAllProper (certificate_lines th ls)
    whole_proper ls p = (
      (words (codes "certificate") refl, (proper_numeral 1 (omega arith), (words (codes "begin") refl, tt))),
      ended (lines_from th 1 ls) (name (codes "end")) p.proper (words (codes "end") refl, tt),
    )

pub certificates_are_texts : CertificatesAreTexts
certificates_are_texts th ok written es b small =
    let p = lines_part th written ok [] 1 es b small in
    (lines_back (certificate_lines th (book.lines es)) (whole_proper th written ok (book.lines es) p), whole_read th written ok (book.lines es) p)
