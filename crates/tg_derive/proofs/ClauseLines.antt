-- A clause closes where False follows from the negations of its literals. Where each clause of a term closes, the term follows.
use Rattle.std.proofs.Common.{◌≡◌, Bool, true, false, not, List, [], ◌∷◌, ◌++◌, map, refl, ap, subst, inl, inr}
use Rattle.std.specs.List.{filter}
use Rattle.tg_model.specs.Tree.{Tree, op, one, two, truth, Operator, negation, conjunction, disjunction, implication, equality}
use Rattle.tg_model.specs.Types.{bool}
use Rattle.tg_model.specs.Formula.{Formula}
use Rattle.tg_model.specs.Theory.{Theory}
use Rattle.tg_model.specs.Accepted.{IsAmong}
use Rattle.tg_accept.specs.Checks.{Each}
use Rattle.tg_clause.specs.declared.literals.Literal.{Literal}
use Rattle.tg_clause.specs.Clauses.{Clause, said, has, joined, product, Sides, sides, turned, of_truth, of_atom, of_conjunction, of_disjunction, of_implication, of_equality}
use Rattle.tg_clause.proofs.EachLaws.{each_filter}
use Rattle.tg_clause.proofs.SideFold.{Fold, sides_by}
use Rattle.tg_clause.proofs.OperandTypes.{operand, operands, sides_of_equation, conjunction_takes, disjunction_takes, implication_takes}
use Rattle.tg_derive.proofs.EachLaws.{each_both, each_given}
use Rattle.tg_calculus.specs.Sequent.{Context, Hypotheses}
use Rattle.tg_calculus.specs.Step.{IsContext, IsTerm}
use Rattle.tg_calculus.specs.Theorem.{AreWithin, Follows}
use Rattle.tg_calculus.proofs.DerivedRules.{widened, anything}
use Rattle.tg_derive.proofs.TruthLines.{truth_typed, signed, IsTable2, table, signed_form, Absurd, clash, by_negation, by_table, shown_true, shown_not_false, either_way, first_known, within_self, within_more, within_then}

-- a list of clauses as a product
pub in_first : {A : Type 0} (x : A) (xs ys : List A) → IsAmong x xs → IsAmong x (xs ++ ys)
in_first x [] ys i = absurd i
in_first x (y ∷ xs) ys (inl e) = inl e
in_first x (y ∷ xs) ys (inr i) = inr (in_first x xs ys i)

pub in_second : {A : Type 0} (x : A) (xs ys : List A) → IsAmong x ys → IsAmong x (xs ++ ys)
in_second x [] ys i = i
in_second x (y ∷ xs) ys i = inr (in_second x xs ys i)

pub in_map : {A B : Type 0} (f : A → B) (x : A) (xs : List A) → IsAmong x xs → IsAmong (f x) (map f xs)
in_map f x [] i = absurd i
in_map f x (y ∷ xs) (inl e) = inl (ap f e)
in_map f x (y ∷ xs) (inr i) = inr (in_map f x xs i)

in_product : (c d : Clause) (cs ds : List Clause) → IsAmong c cs → IsAmong d ds → IsAmong (joined c d) (product cs ds)
in_product c d [] ds i j = absurd i
in_product c d (b ∷ cs) ds (inl e) j =
    subst (λ x. IsAmong (joined c d) (map (joined x) ds ++ product cs ds)) e (in_first (joined c d) (map (joined c) ds) (product cs ds) (in_map (joined c) d ds j))
in_product c d (b ∷ cs) ds (inr i) j = in_second (joined c d) (map (joined b) ds) (product cs ds) (in_product c d cs ds i j)

pub each_filtered : {A : Type 0} (P : A → Type 0) (p : A → Bool) (xs : List A) → Each P xs → Each P (filter p xs)
each_filtered P p xs h = each_filter P p xs (each_given P (λ x. p x ≡ true → P x) xs (λ x q e. q) h)

abbrev pub side_of : Bool → Sides → List Clause
side_of true s = s.positive.list
side_of false s = s.negative.list

module _ (th : Theory) (G : Context) (closed : IsContext th G) where
  abbrev Shown : Hypotheses → Formula → Type 0
  Shown H F = Follows th G H F

  -- the literals of the clause are all false
  abbrev pub AreDenied : Hypotheses → Clause → Type 0
  AreDenied H c = Each (λ (l : Literal). Follows th G H (signed (not l.positive) l.atom)) c

  pub denied_widened : (H K : Hypotheses) (c : Clause) → AreWithin H K → AreDenied H c → AreDenied K c
  denied_widened H K c w d = each_given (λ (l : Literal). Shown H (signed (not l.positive) l.atom)) (λ (l : Literal). Shown K (signed (not l.positive) l.atom)) c (λ l p. widened th G w p) d

  denied_joined : (H : Hypotheses) (c d : Clause) → AreDenied H c → AreDenied H d → AreDenied H (joined c d)
  denied_joined H c d p q =
      let P = λ (l : Literal). Shown H (signed (not l.positive) l.atom) in
      each_both P c (filter (λ l. not (has c l)) d) p (each_filtered P (λ l. not (has c l)) d q)

  abbrev pub Closes : Hypotheses → Clause → Type 0
  Closes H c = (K : Hypotheses) → AreWithin H K → AreDenied K c → Absurd th G closed K

  abbrev pub AllClose : Hypotheses → List Clause → Type 0
  AllClose H cs = (c : Clause) → IsAmong c cs → Closes H c

  pub all_close_wider : (H K : Hypotheses) (cs : List Clause) → AreWithin H K → AllClose H cs → AllClose K cs
  all_close_wider H K cs w a c i L v d = a c i L (within_then H K L w v) d

  -- the term, or its negation, follows where each clause of it closes
  abbrev FromSide : Bool → Tree → List Clause → Type 0
  FromSide s t cs = (H : Hypotheses) → AllClose H cs → Follows th G H (signed s t)

  abbrev pub FromSides : Tree → Sides → Type 0
  FromSides t ss = (s : Bool) (H : Hypotheses) → AllClose H (side_of s ss) → Follows th G H (signed s t)

  abbrev Truth : Tree → Type 0
  Truth t = IsTerm th G t bool

  -- of a product: where the first term isn't so, the second is
  other : (a b : Tree) (x y : Bool) (cs ds : List Clause) → Truth a → FromSide x a cs → FromSide y b ds → (H K : Hypotheses) → AllClose H (product cs ds)
      → AreWithin H K → Follows th G K (signed (not x) a) → Follows th G K (signed y b)
  other a b x y cs ds ta fa fb H K all w p =
      fb K (λ d j L v dd.
      clash th G closed x a ta
      (fa L (λ c i M u dc. all (joined c d) (in_product c d cs ds i j) M (within_then H L M (within_then H K L w v) u)
      (denied_joined M c d dc (denied_widened L M d u dd))))
      (widened th G v p))

  atoms_close : (t : Tree) → Truth t → (s : Bool) (H : Hypotheses) → AllClose H ((said s t ∷ []) ∷ []) → Follows th G H (signed s t)
  atoms_close t typed s H all =
      either_way th G closed s t typed (first_known th G closed s t H typed)
      (anything th G (signed_form th G s t typed)
      (all (said s t ∷ []) (inl refl) (signed (not s) t ∷ H) (within_more (signed (not s) t) H) (first_known th G closed (not s) t H typed, tt)))

  -- one side decides
  by_left : {K : Hypotheses} (o : Operator) (i : IsTable2 o) (x z : Bool) (a b : Tree) → Truth a → Truth b → ((y : Bool) → table o x y ≡ z)
      → Follows th G K (signed x a) → Follows th G K (signed z (op o (two a b)))
  by_left {K} o i x z a b ta tb e p =
      either_way th G closed true b tb (row true) (row false)
    where
      row : (y : Bool) → Follows th G (signed y b ∷ K) (signed z (op o (two a b)))
      row y = subst (λ v. Follows th G (signed y b ∷ K) (signed v (op o (two a b)))) (e y)
          (by_table th G closed o i x y a b ta tb (widened th G (within_more (signed y b) K) p) (first_known th G closed y b K tb))

  first_closes : (H : Hypotheses) (cs ds : List Clause) → AllClose H (cs ++ ds) → AllClose H cs
  first_closes H cs ds all c i = all c (in_first c cs ds i)

  second_closes : (H : Hypotheses) (cs ds : List Clause) → AllClose H (cs ++ ds) → AllClose H ds
  second_closes H cs ds all c i = all c (in_second c cs ds i)

  of_truths : (b : Bool) → FromSides (truth b) (of_truth b)
  of_truths true true H all = shown_true th G closed
  of_truths true false H all =
      anything th G (signed_form th G false (truth true) (truth_typed th G true)) (all [] (inl refl) H (within_self H) tt)
  of_truths false true H all = all [] (inl refl) H (within_self H) tt
  of_truths false false H all = shown_not_false th G closed

  of_atoms : (t : Tree) → Truth t → FromSides t (of_atom t)
  of_atoms t typed true H all = atoms_close t typed true H all
  of_atoms t typed false H all = atoms_close t typed false H all

  of_negations : (a : Tree) → Truth a → (x : Sides) → FromSides a x → FromSides (op negation (one a)) (turned x)
  of_negations a ta x f true H all = by_negation th G closed false a ta (f false H all)
  of_negations a ta x f false H all = by_negation th G closed true a ta (f true H all)

  module _ (a b : Tree) (ta : IsTerm th G a bool) (tb : IsTerm th G b bool) (x y : Sides) (f : FromSides a x) (g : FromSides b y) where
    -- where the first side is known
    under : (s : Bool) (H : Hypotheses) → Follows th G (signed s a ∷ H) (signed s a)
    under s H = first_known th G closed s a H ta

    -- of a product of lists of the two sides: what the second side is where the first one isn't so
    then_other : (s r : Bool) (H : Hypotheses) → AllClose H (product (side_of s x) (side_of r y)) → Follows th G (signed (not s) a ∷ H) (signed r b)
    then_other s r H all =
        other a b s r (side_of s x) (side_of r y) ta (λ K. f s K) (λ K. g r K) H (signed (not s) a ∷ H) all (within_more (signed (not s) a) H) (under (not s) H)

    both_known : (o : Operator) (i : IsTable2 o) (s r : Bool) (H : Hypotheses) → Follows th G H (signed s a) → Follows th G H (signed r b)
        → Follows th G H (signed (table o s r) (op o (two a b)))
    both_known o i s r H p q = by_table th G closed o i s r a b ta tb p q

    of_conjunctions : FromSides (op conjunction (two a b)) (of_conjunction x y)
    of_conjunctions true H all = both_known conjunction tt true true H
        (f true H (first_closes H x.positive.list y.positive.list all)) (g true H (second_closes H x.positive.list y.positive.list all))
    of_conjunctions false H all = either_way th G closed true a ta
        (both_known conjunction tt true false (signed true a ∷ H) (under true H) (then_other false false H all))
        (by_left conjunction tt false false a b ta tb (λ v. refl) (under false H))

    of_disjunctions : FromSides (op disjunction (two a b)) (of_disjunction x y)
    of_disjunctions true H all = either_way th G closed true a ta
        (by_left disjunction tt true true a b ta tb (λ v. refl) (under true H))
        (both_known disjunction tt false true (signed false a ∷ H) (under false H) (then_other true true H all))
    of_disjunctions false H all = both_known disjunction tt false false H
        (f false H (first_closes H x.negative.list y.negative.list all)) (g false H (second_closes H x.negative.list y.negative.list all))

    of_implications : FromSides (op implication (two a b)) (of_implication x y)
    of_implications true H all = either_way th G closed true a ta
        (both_known implication tt true true (signed true a ∷ H) (under true H) (then_other false true H all))
        (by_left implication tt false true a b ta tb (λ v. refl) (under false H))
    of_implications false H all = both_known implication tt true false H
        (f true H (first_closes H x.positive.list y.negative.list all)) (g false H (second_closes H x.positive.list y.negative.list all))

    of_equations : FromSides (op equality (two a b)) (of_equality x y)
    of_equations true H all =
        let one = first_closes H (product x.negative.list y.positive.list) (product y.negative.list x.positive.list) all in
        let two_ = second_closes H (product x.negative.list y.positive.list) (product y.negative.list x.positive.list) all in
        let N = signed false a ∷ H in
        either_way th G closed true a ta
        (both_known equality tt true true (signed true a ∷ H) (under true H) (then_other false true H one))
        (both_known equality tt false false N (under false H)
        (either_way th G closed false b tb (first_known th G closed false b N tb)
        (anything th G (signed_form th G false b tb)
        (clash th G closed true a ta
        (other b a false true y.negative.list x.positive.list tb (λ K. g false K) (λ K. f true K) H (signed true b ∷ N) two_
        (within_then H N (signed true b ∷ N) (within_more (signed false a) H) (within_more (signed true b) N)) (first_known th G closed true b N tb))
        (widened th G (within_more (signed true b) N) (under false H))))))
    of_equations false H all =
        let one = first_closes H (product x.positive.list y.positive.list) (product x.negative.list y.negative.list) all in
        let two_ = second_closes H (product x.positive.list y.positive.list) (product x.negative.list y.negative.list) all in
        either_way th G closed true a ta
        (both_known equality tt true false (signed true a ∷ H) (under true H) (then_other false false H two_))
        (both_known equality tt false true (signed false a ∷ H) (under false H) (then_other true true H one))

  fold : Fold (λ t. IsTerm th G t bool) FromSides
  fold = record {
    atoms = of_atoms;
    truths = of_truths;
    negations = λ a typed. let k = operand th G [] a typed in (k, of_negations a k);
    conjunctions = λ a b typed. let k = operands th G [] conjunction a b (conjunction_takes th G []) typed in (k.0, k.1, of_conjunctions a b k.0 k.1);
    disjunctions = λ a b typed. let k = operands th G [] disjunction a b (disjunction_takes th G []) typed in (k.0, k.1, of_disjunctions a b k.0 k.1);
    implications = λ a b typed. let k = operands th G [] implication a b (implication_takes th G []) typed in (k.0, k.1, of_implications a b k.0 k.1);
    equations = λ a b shaped typed. let k = sides_of_equation th G [] a b shaped typed in (k.0, k.1, of_equations a b k.0 k.1);
  }

  pub by_sides : (t : Tree) → IsTerm th G t bool → FromSides t (sides t)
  by_sides t typed = sides_by (λ u. IsTerm th G u bool) FromSides fold t typed
