-- How the logic stores a book: a rule as its number with its arguments.
use Rattle.std.specs.Prelude.{ℕ, ◌≡◌, List, [], ◌∷◌, nat_eq, if◌then◌else◌, refl}
use Rattle.std.specs.Coded.{Coded, code_by, coded×, coded_ℕ, coded_list}
use Rattle.std.proofs.Common.{ap}
use Rattle.tg_model.specs.Tree as tree
use Rattle.tg_model.specs.Tree.{Tree, Trees, elements, literal, trees}
use Rattle.tg_model.specs.Types.{Ty}
use Rattle.tg_model.specs.Formula.{Formula, Sequent, atom}
use Rattle.tg_model.specs.Theory.{Theory}
use Rattle.tg_term.specs.Code.{coded_tree}
use Rattle.tg_term.specs.FormulaCode.{coded_formula}
use Rattle.tg_theory.specs.Code.{coded_theory}
use Rattle.tg_calculus.specs.Rule as calculus
use Rattle.tg_calculus.specs.Rule.{Rule}
use Rattle.tg_calculus.specs.Book.{Line, Entry}
use Rattle.tg_kernel.specs.Code.{coded_type}
use Rattle.tg_kernel.specs.Books.{Book}

-- the rule's number, a number, a context, formulas and terms
abbrev pub Parts : Type 0
Parts = ℕ × ((ℕ × List Ty) × (List Formula × List Tree))

abbrev pub parts : Rule → Parts
parts (calculus.hyp G F) = (1, ((0, G), (F ∷ [], [])))
parts (calculus.weak F) = (2, ((0, []), (F ∷ [], [])))
parts calculus.cut = (3, ((0, []), ([], [])))
parts (calculus.grow G) = (4, ((0, G), ([], [])))
parts calculus.and_i = (5, ((0, []), ([], [])))
parts calculus.and_l = (6, ((0, []), ([], [])))
parts calculus.and_r = (7, ((0, []), ([], [])))
parts (calculus.imp_i F) = (8, ((0, []), (F ∷ [], [])))
parts calculus.mp = (9, ((0, []), ([], [])))
parts calculus.all_i = (10, ((0, []), ([], [])))
parts (calculus.all_e t) = (11, ((0, []), ([], t ∷ [])))
parts (calculus.ex_i F t) = (12, ((0, []), (F ∷ [], t ∷ [])))
parts calculus.ex_e = (13, ((0, []), ([], [])))
parts calculus.thyp_i = (14, ((0, []), ([], [])))
parts calculus.thyp_e = (15, ((0, []), ([], [])))
parts (calculus.truth G) = (16, ((0, G), ([], [])))
parts (calculus.falsity F) = (17, ((0, []), (F ∷ [], [])))
parts (calculus.split t) = (18, ((0, []), ([], t ∷ [])))
parts (calculus.reflexive G t) = (19, ((0, G), ([], t ∷ [])))
parts calculus.symmetric = (20, ((0, []), ([], [])))
parts calculus.transitive = (21, ((0, []), ([], [])))
parts (calculus.replace F) = (22, ((0, []), (F ∷ [], [])))
parts (calculus.schema G k t) = (23, ((k, G), ([], t ∷ [])))
parts (calculus.exhaust k) = (24, ((k, []), ([], [])))
parts (calculus.deep G k ts) = (25, ((k, G), ([], elements ts)))
parts (calculus.compute G t) = (26, ((0, G), ([], t ∷ [])))

abbrev pub first_formula : List Formula → Formula
first_formula [] = atom (literal 0)
first_formula (F ∷ Fs) = F

abbrev pub first_tree : List Tree → Tree
first_tree [] = literal 0
first_tree (t ∷ ts) = t

abbrev pub back : Parts → Rule
back p =
    if nat_eq p.0 1 then calculus.hyp p.1.0.1 (first_formula p.1.1.0) else
    if nat_eq p.0 2 then calculus.weak (first_formula p.1.1.0) else
    if nat_eq p.0 3 then calculus.cut else
    if nat_eq p.0 4 then calculus.grow p.1.0.1 else
    if nat_eq p.0 5 then calculus.and_i else
    if nat_eq p.0 6 then calculus.and_l else
    if nat_eq p.0 7 then calculus.and_r else
    if nat_eq p.0 8 then calculus.imp_i (first_formula p.1.1.0) else
    if nat_eq p.0 9 then calculus.mp else
    if nat_eq p.0 10 then calculus.all_i else
    if nat_eq p.0 11 then calculus.all_e (first_tree p.1.1.1) else
    if nat_eq p.0 12 then calculus.ex_i (first_formula p.1.1.0) (first_tree p.1.1.1) else
    if nat_eq p.0 13 then calculus.ex_e else
    if nat_eq p.0 14 then calculus.thyp_i else
    if nat_eq p.0 15 then calculus.thyp_e else
    if nat_eq p.0 16 then calculus.truth p.1.0.1 else
    if nat_eq p.0 17 then calculus.falsity (first_formula p.1.1.0) else
    if nat_eq p.0 18 then calculus.split (first_tree p.1.1.1) else
    if nat_eq p.0 19 then calculus.reflexive p.1.0.1 (first_tree p.1.1.1) else
    if nat_eq p.0 20 then calculus.symmetric else
    if nat_eq p.0 21 then calculus.transitive else
    if nat_eq p.0 22 then calculus.replace (first_formula p.1.1.0) else
    if nat_eq p.0 23 then calculus.schema p.1.0.1 p.1.0.0 (first_tree p.1.1.1) else
    if nat_eq p.0 24 then calculus.exhaust p.1.0.0 else
    if nat_eq p.0 25 then calculus.deep p.1.0.1 p.1.0.0 (trees p.1.1.1) else
    calculus.compute p.1.0.1 (first_tree p.1.1.1)

trees_elements : (ts : Trees) → trees (elements ts) ≡ ts
trees_elements tree.none = refl
trees_elements (tree.more t ts) = ap (λ us. tree.more t us) (trees_elements ts)

pub again : (r : Rule) → back (parts r) ≡ r
again (calculus.hyp G F) = refl
again (calculus.weak F) = refl
again calculus.cut = refl
again (calculus.grow G) = refl
again calculus.and_i = refl
again calculus.and_l = refl
again calculus.and_r = refl
again (calculus.imp_i F) = refl
again calculus.mp = refl
again calculus.all_i = refl
again (calculus.all_e t) = refl
again (calculus.ex_i F t) = refl
again calculus.ex_e = refl
again calculus.thyp_i = refl
again calculus.thyp_e = refl
again (calculus.truth G) = refl
again (calculus.falsity F) = refl
again (calculus.split t) = refl
again (calculus.reflexive G t) = refl
again calculus.symmetric = refl
again calculus.transitive = refl
again (calculus.replace F) = refl
again (calculus.schema G k t) = refl
again (calculus.exhaust k) = refl
again (calculus.deep G k ts) = ap (calculus.deep G k) (trees_elements ts)
again (calculus.compute G t) = refl

abbrev pub coded_rule : Coded Rule
coded_rule = code_by Parts (coded× coded_ℕ (coded× (coded× coded_ℕ (coded_list coded_type)) (coded× (coded_list coded_formula) (coded_list coded_tree)))) parts back again

abbrev pub coded_entry : Coded Entry
coded_entry =
    code_by ((Rule × List ℕ) × (List Ty × (List Formula × Formula)))
    (coded× (coded× coded_rule (coded_list coded_ℕ)) (coded× (coded_list coded_type) (coded× (coded_list coded_formula) coded_formula)))
    (λ e. ((e.line.rule, e.line.premises), (e.sequent.vars, (e.sequent.hypotheses, e.sequent.goal))))
    (λ p. record { line = record { rule = p.0.0; premises = p.0.1 }; sequent = record { vars = p.1.0; hypotheses = p.1.1.0; goal = p.1.1.1 } }) (λ _. refl)

abbrev pub coded_book : Coded Book
coded_book =
    code_by (Theory × List Entry) (coded× coded_theory (coded_list coded_entry)) (λ b. (b.theory, b.entries)) (λ p. record { theory = p.0; entries = p.1 }) (λ _. refl)
