-- Rows keep the inputs of program calls: what a row makes has the calls of the term, and bodies of functions have none.
use Rattle.std.proofs.Common.{ℕ, zero, suc, ◌≡◌, ◌+◌, ◌-◌, ◌*◌, Bool, true, false, not, List, [], ◌∷◌, ◌++◌, length, take, drop, Option, Some, None, sym, ◌∙◌, ap, subst, nat_eq, nat_lt, nat_le}
use Rattle.std.specs.Prelude.{slice_get}
use Rattle.tg_model.specs.Tree as tree
use Rattle.tg_model.specs.Tree.{Tree, Trees, Arms, literal, truth, con, call, choice, case, bind, op, one, two, elements, Operator, successor, negation, conjunction, disjunction, implication, equality, less, less_equal, plus, minus, times, divide, modulo}
use Rattle.tg_model.specs.Value.{same_truth}
use Rattle.tg_model.specs.Theory.{Theory, Body, plain, recursive, numbered, first_constructor}
use Rattle.tg_model.specs.Denotation.{others, datatype_of_place, quotient, remainder}
use Rattle.tg_model.specs.Walk.{substituted, instantiated}
use Rattle.tg_model.specs.Equality.{same_tree}
use Rattle.tg_model.specs.Calls.{has_call, EachPut, EachPuts, EachPutOf}
use Rattle.tg_model.specs.Made.{AreMade}
use Rattle.tg_model.specs.Accepted.{IsAccepted, HaveNoCall, bodies}
use Rattle.tg_rows.specs.Laws.{HaveValues, RowsKeepInputs}
use Rattle.tg_rows.specs.Parts.{only_if, and_then, or_else, unary, binary, truth_of, number_of, choice_of, bind_of, case_of, made_of, called, branch_at}
use Rattle.tg_rows.specs.Rows.{left_truth, right_truth, alike, literals, itself, always, denied, small, not_truth, not_not, side, if_truth, if_same, let_sub, Opener, from_constructor, from_successor, place_of_literal, from_literal, entered, case_by, plain_body, recursive_body, unfold_def, unfold_by, equation, equal_parts, eq_con, eq_con_diff, eq_suc, zero_successor, eq_zero_suc, before, eq_suc_lit, eq_truth, suc_lit, Row, rows, row}
use Rattle.tg_rows.proofs.PartForms.{some_same, some_if, then_some, unary_is, binary_is, choice_is, bind_is, case_is, made_is, called_is}
use Rattle.tg_rows.proofs.CallRows.{plain_is, recursive_is}
use Rattle.tg_rows.proofs.WalkedInputs.{All, all_elements, instantiated_puts, substituted_puts}

module _ (th : Theory) (accepted : IsAccepted th) (P : Trees → Type 0) (made : (ts : Trees) → P ts → AreMade ts) where
  abbrev Good : Tree → Type 0
  Good = EachPut P

  abbrev AllGood : List Tree → Type 0
  AllGood = All P made

  abbrev Keeps : Row → Type 0
  Keeps f = (t u : Tree) → f t ≡ Some u → Good t → Good u

  good_unary : (o : Operator) (t a : Tree) → unary o t ≡ Some a → Good t → Good a
  good_unary o t a e h = (subst Good (unary_is o t a e) h).0

  good_binary : (o : Operator) (t : Tree) (p : Tree × Tree) → binary o t ≡ Some p → Good t → Good p.0 × Good p.1
  good_binary o t p e h = let g : Good (op o (two p.0 p.1)) = subst Good (binary_is o t p e) h in (g.0, g.1.0)

  abbrev GoodFor : (Tree → Tree) → Type 0
  GoodFor f = (x : Tree) → Good x → Good (f x)

  left_keeps : (o : Operator) (b : Bool) (f : Tree → Tree) → GoodFor f → Keeps (left_truth o b f)
  left_keeps o b f g t u e h =
      let p = then_some (binary o t) (λ p. and_then (truth_of p.0) (λ c. only_if (same_truth c b) (f p.1))) u e in
      let q = then_some (truth_of p.0.0) (λ c. only_if (same_truth c b) (f p.0.1)) u p.2 in
      subst Good (some_if (same_truth q.0 b) (f p.0.1) u q.2).1 (g p.0.1 (good_binary o t p.0 p.1 h).1)

  right_keeps : (o : Operator) (b : Bool) (f : Tree → Tree) → GoodFor f → Keeps (right_truth o b f)
  right_keeps o b f g t u e h =
      let p = then_some (binary o t) (λ p. and_then (truth_of p.1) (λ c. only_if (same_truth c b) (f p.0))) u e in
      let q = then_some (truth_of p.0.1) (λ c. only_if (same_truth c b) (f p.0.0)) u p.2 in
      subst Good (some_if (same_truth q.0 b) (f p.0.0) u q.2).1 (g p.0.0 (good_binary o t p.0 p.1 h).0)

  alike_keeps : (o : Operator) (f : Tree → Tree) → GoodFor f → Keeps (alike o f)
  alike_keeps o f g t u e h =
      let p = then_some (binary o t) (λ p. only_if (same_tree p.0 p.1) (f p.0)) u e in
      subst Good (some_if (same_tree p.0.0 p.0.1) (f p.0.0) u p.2).1 (g p.0.0 (good_binary o t p.0 p.1 h).0)

  literals_keep : (o : Operator) (f : ℕ → ℕ → Option Tree) → ((i j : ℕ) (u : Tree) → f i j ≡ Some u → Good u) → Keeps (literals o f)
  literals_keep o f g t u e h =
      let p = then_some (binary o t) (λ p. and_then (number_of p.0) (λ i. and_then (number_of p.1) (λ j. f i j))) u e in
      let q = then_some (number_of p.0.0) (λ i. and_then (number_of p.0.1) (λ j. f i j)) u p.2 in
      let r = then_some (number_of p.0.1) (λ j. f q.0 j) u q.2 in g q.0 r.0 u r.2

  good_itself : GoodFor itself
  good_itself x h = h

  good_always : (b : Bool) → GoodFor (always b)
  good_always b x h = tt

  good_denied : GoodFor denied
  good_denied x h = (h, tt)

  good_small : (i : ℕ) (u : Tree) → small i ≡ Some u → Good u
  good_small i u e = subst Good (some_if (nat_lt i 18446744073709551616) (literal i) u e).1 tt

  good_truth : (b : Bool) (u : Tree) → Some (truth b) ≡ Some u → Good u
  good_truth b u e = let r : truth b ≡ u = some_same e in subst Good r tt

  good_if_truth : (c b : Bool) (u : Tree) → only_if c (truth b) ≡ Some u → Good u
  good_if_truth c b u e = subst Good (some_if c (truth b) u e).1 tt

  not_truth_keeps : (b : Bool) → Keeps (not_truth b)
  not_truth_keeps b t u e h =
      let p = then_some (unary negation t) (λ a. and_then (truth_of a) (λ c. only_if (same_truth c b) (truth (not b)))) u e in
      let q = then_some (truth_of p.0) (λ c. only_if (same_truth c b) (truth (not b))) u p.2 in good_if_truth (same_truth q.0 b) (not b) u q.2

  not_not_keeps : Keeps not_not
  not_not_keeps t u e h =
      let p = then_some (unary negation t) (λ a. unary negation a) u e in good_unary negation p.0 u p.2 (good_unary negation t p.0 p.1 h)

  good_choice : (t : Tree) (p : Tree × Tree × Tree) → choice_of t ≡ Some p → Good t → Good p.1 × Good p.2
  good_choice t p e h = let g : Good (choice (tree.more p.0 (two p.1 p.2))) = subst Good (choice_is t p e) h in (g.1.0, g.1.1.0)

  if_truth_keeps : (b : Bool) → Keeps (if_truth b)
  if_truth_keeps b t u e h =
      let p = then_some (choice_of t) (λ p. and_then (truth_of p.0) (λ c. only_if (same_truth c b) (side b p.1 p.2))) u e in
      let q = then_some (truth_of p.0.0) (λ c. only_if (same_truth c b) (side b p.0.1 p.0.2)) u p.2 in
      let g = good_choice t p.0 p.1 h in
      subst Good (some_if (same_truth q.0 b) (side b p.0.1 p.0.2) u q.2).1 (by b p.0.1 p.0.2 g.0 g.1)
    where
      by : (c : Bool) (x y : Tree) → Good x → Good y → Good (side c x y)
      by true x y k l = k
      by false x y k l = l

  if_same_keeps : Keeps if_same
  if_same_keeps t u e h =
      let p = then_some (choice_of t) (λ p. only_if (same_tree p.1 p.2) p.1) u e in
      subst Good (some_if (same_tree p.0.1 p.0.2) p.0.1 u p.2).1 (good_choice t p.0 p.1 h).0

  let_keeps : Keeps let_sub
  let_keeps t u e h =
      let p = then_some (bind_of t) (λ p. Some (instantiated (p.0 ∷ []) p.1)) u e in
      let g : Good (bind p.0.0 p.0.1) = subst Good (bind_is t p.0 p.1) h in
      let r : instantiated (p.0.0 ∷ []) p.0.1 ≡ u = some_same p.2 in
      subst Good r (instantiated_puts P made (p.0.0 ∷ []) p.0.1 (g.0, tt) g.1)

  -- what an opener finds has the calls of the scrutinee
  abbrev GoodOpener : Opener → Type 0
  GoodOpener o = (d : ℕ) (x : Tree) (p : ℕ × List Tree) → o d x ≡ Some p → Good x → AllGood p.1

  good_constructor : GoodOpener (from_constructor th)
  good_constructor d x p e h =
      let q = then_some (made_of x) (λ q. only_if (nat_le (first_constructor th.datatypes d) q.0) (q.0 - first_constructor th.datatypes d, elements q.1)) p e in
      let r = some_if (nat_le (first_constructor th.datatypes d) q.0.0) (q.0.0 - first_constructor th.datatypes d, elements q.0.1) p q.2 in
      let g : Good (con q.0.0 q.0.1) = subst Good (made_is x q.0 q.1) h in
      subst (λ (y : ℕ × List Tree). AllGood y.1) r.1 (all_elements P made q.0.1 g)

  good_successor : GoodOpener from_successor
  good_successor d x p e h =
      let q = then_some (unary successor x) (λ a. Some (1, a ∷ [])) p e in
      let r : (1, q.0 ∷ []) ≡ p = some_same q.2 in
      subst (λ (y : ℕ × List Tree). AllGood y.1) r (good_unary successor x q.0 q.1 h, tt)

  good_literal : GoodOpener from_literal
  good_literal d x p e h =
      let q = then_some (number_of x) (λ i. Some (place_of_literal i)) p e in
      let r : place_of_literal q.0 ≡ p = some_same q.2 in
      subst (λ (y : ℕ × List Tree). AllGood y.1) r (by q.0)
    where
      by : (i : ℕ) → AllGood (place_of_literal i).1
      by zero = tt
      by (suc i) = (tt, tt)

  good_branch : (arms : Arms) (k : ℕ) (p : ℕ × Tree) → branch_at arms k ≡ Some p → EachPutOf P arms → Good p.1
  good_branch tree.end k p e h = cc e
  good_branch (tree.arm m body arms) zero p e h = let r : (m, body) ≡ p = some_same e in subst Good (ap (λ (x : ℕ × Tree). x.1) r) h.0
  good_branch (tree.arm m body arms) (suc k) p e h = good_branch arms k p e h.1

  case_keeps : (o : Opener) → GoodOpener o → Keeps (case_by o)
  case_keeps o good t u e h =
      let p = then_some (case_of t) (λ p. and_then (o p.0 p.1) (λ q. and_then (branch_at p.2 q.0) (entered q.1))) u e in
      let q = then_some (o p.0.0 p.0.1) (λ q. and_then (branch_at p.0.2 q.0) (entered q.1)) u p.2 in
      let r = then_some (branch_at p.0.2 q.0.0) (entered q.0.1) u q.2 in
      let s = some_if (nat_eq r.0.0 (length q.0.1)) (instantiated q.0.1 r.0.1) u r.2 in
      let g : Good (case p.0.0 p.0.1 p.0.2) = subst Good (case_is t p.0 p.1) h in
      subst Good s.1 (instantiated_puts P made q.0.1 r.0.1 (good p.0.0 p.0.1 q.0 q.1 g.0) (good_branch p.0.2 q.0.0 r.0 r.1 g.1))

  all_append : (ts us : List Tree) → AllGood ts → AllGood us → AllGood (ts ++ us)
  all_append [] us h k = k
  all_append (t ∷ ts) us h k = (h.0, all_append ts us h.1 k)

  all_take : (k : ℕ) (ts : List Tree) → AllGood ts → AllGood (take k ts)
  all_take zero ts h = tt
  all_take (suc k) [] h = tt
  all_take (suc k) (t ∷ ts) h = (h.0, all_take k ts h.1)

  all_drop : (k : ℕ) (ts : List Tree) → AllGood ts → AllGood (drop k ts)
  all_drop zero ts h = h
  all_drop (suc k) [] h = tt
  all_drop (suc k) (t ∷ ts) h = all_drop k ts h.1

  one_of : (ts : List Tree) (k : ℕ) (t : Tree) → numbered ts k ≡ Some t → AllGood ts → Good t
  one_of ts zero t e h = cc e
  one_of [] (suc k) t e h = cc e
  one_of (u ∷ ts) (suc zero) t e h = let r : u ≡ t = some_same e in subst Good r h.0
  one_of (u ∷ ts) (suc (suc k)) t e h = one_of ts (suc k) t e h.1

  no_call : (ts : List Tree) (k : ℕ) (t : Tree) → slice_get ts k ≡ Some t → HaveNoCall ts → has_call t ≡ false
  no_call [] k t e h = cc e
  no_call (u ∷ ts) zero t e h = let r : u ≡ t = some_same e in ap has_call (sym r) ∙ h.0
  no_call (u ∷ ts) (suc k) t e h = no_call ts k t e h.1

  def_keeps : Keeps (unfold_def th)
  def_keeps t u e h =
      let q = then_some (called t) (λ q. and_then (numbered th.functions q.0) (λ x. and_then (plain_body x.body) (λ u. Some (substituted (elements q.1) u)))) u e in
      let x = then_some (numbered th.functions q.0.0) (λ x. and_then (plain_body x.body) (λ u. Some (substituted (elements q.0.1) u))) u q.2 in
      let b = then_some (plain_body x.0.body) (λ u. Some (substituted (elements q.0.1) u)) u x.2 in
      let g : Good (call q.0.0 q.0.1) = subst Good (called_is t q.0 q.1) h in
      let none_there : HaveNoCall (bodies (plain b.0)) =
      subst (λ (y : Body). HaveNoCall (bodies y)) (plain_is x.0.body b.0 b.1) ((accepted.functions q.0.0 x.0 x.1).no_call) in
      let r : substituted (elements q.0.1) b.0 ≡ u = some_same b.2 in
      subst Good r (substituted_puts P made (elements q.0.1) b.0 (all_elements P made q.0.1 g) none_there.0)

  unfold_keeps : (o : Opener) → GoodOpener o → Keeps (unfold_by o th)
  unfold_keeps o good t u e h =
      let q = then_some (called t) (λ q. and_then (numbered th.functions q.0) (λ x. and_then (recursive_body x.body) (λ r.
      and_then (numbered (elements q.1) r.0) (λ a. and_then (o (datatype_of_place x r.0) a) (λ p.
      and_then (slice_get r.1 p.0) (λ u. Some (substituted (others (elements q.1) r.0 ++ p.1) u))))))) u e in
      let x = then_some (numbered th.functions q.0.0) (λ x. and_then (recursive_body x.body) (λ r.
      and_then (numbered (elements q.0.1) r.0) (λ a. and_then (o (datatype_of_place x r.0) a) (λ p.
      and_then (slice_get r.1 p.0) (λ u. Some (substituted (others (elements q.0.1) r.0 ++ p.1) u)))))) u q.2 in
      let r = then_some (recursive_body x.0.body) (λ r. and_then (numbered (elements q.0.1) r.0) (λ a. and_then (o (datatype_of_place x.0 r.0) a) (λ p.
      and_then (slice_get r.1 p.0) (λ u. Some (substituted (others (elements q.0.1) r.0 ++ p.1) u))))) u x.2 in
      let y = then_some (numbered (elements q.0.1) r.0.0) (λ a. and_then (o (datatype_of_place x.0 r.0.0) a) (λ p.
      and_then (slice_get r.0.1 p.0) (λ u. Some (substituted (others (elements q.0.1) r.0.0 ++ p.1) u)))) u r.2 in
      let p = then_some (o (datatype_of_place x.0 r.0.0) y.0) (λ p. and_then (slice_get r.0.1 p.0) (λ u. Some (substituted (others (elements q.0.1) r.0.0 ++ p.1) u))) u y.2 in
      let b = then_some (slice_get r.0.1 p.0.0) (λ u. Some (substituted (others (elements q.0.1) r.0.0 ++ p.0.1) u)) u p.2 in
      let g : Good (call q.0.0 q.0.1) = subst Good (called_is t q.0 q.1) h in
      let all_good = all_elements P made q.0.1 g in
      let none_there : HaveNoCall (bodies (recursive r.0.0 r.0.1)) =
      subst (λ (z : Body). HaveNoCall (bodies z)) (recursive_is x.0.body r.0 r.1) ((accepted.functions q.0.0 x.0 x.1).no_call) in
      let s : substituted (others (elements q.0.1) r.0.0 ++ p.0.1) b.0 ≡ u = some_same b.2 in
      subst Good s (substituted_puts P made (others (elements q.0.1) r.0.0 ++ p.0.1) b.0
      (all_append (others (elements q.0.1) r.0.0) p.0.1
      (all_append (take (r.0.0 - 1) (elements q.0.1)) (drop r.0.0 (elements q.0.1)) (all_take (r.0.0 - 1) (elements q.0.1) all_good) (all_drop r.0.0 (elements q.0.1) all_good))
      (good (datatype_of_place x.0 r.0.0) y.0 p.0 p.1 (one_of (elements q.0.1) r.0.0 y.0 y.1 all_good))) (no_call r.0.1 p.0.0 b.0 b.1 none_there))

  parts_good : (ts us : List Tree) (w : Tree) → AllGood ts → AllGood us → equal_parts ts us ≡ Some w → Good w
  parts_good [] us w h k e = cc e
  parts_good (t ∷ []) [] w h k e = cc e
  parts_good (t ∷ t' ∷ ts) [] w h k e = cc e
  parts_good (t ∷ []) (u ∷ []) w h k e = let r : equation t u ≡ w = some_same e in subst Good r (h.0, (k.0, tt))
  parts_good (t ∷ []) (u ∷ u' ∷ us) w h k e =
      let p = then_some (equal_parts [] (u' ∷ us)) (λ z. Some (op conjunction (two (equation t u) z))) w e in let f : None ≡ Some p.0 = p.1 in cc
  parts_good (t ∷ t' ∷ ts) (u ∷ us) w h k e =
      let p = then_some (equal_parts (t' ∷ ts) us) (λ z. Some (op conjunction (two (equation t u) z))) w (by us e) in
      let r : op conjunction (two (equation t u) p.0) ≡ w = some_same p.2 in
      subst Good r ((h.0, (k.0, tt)), (parts_good (t' ∷ ts) us p.0 h.1 k.1 p.1, tt))
    where
      by : (vs : List Tree) → equal_parts (t ∷ t' ∷ ts) (u ∷ vs) ≡ Some w → and_then (equal_parts (t' ∷ ts) vs) (λ z. Some (op conjunction (two (equation t u) z))) ≡ Some w
      by [] f = f
      by (v ∷ vs) f = f

  eq_con_good : Keeps eq_con
  eq_con_good t u e h =
      let p = then_some (binary equality t) (λ p. and_then (made_of p.0) (λ q. and_then (made_of p.1) (λ r.
      and_then (only_if (nat_eq q.0 r.0) q.0) (λ c. equal_parts (elements q.1) (elements r.1))))) u e in
      let q = then_some (made_of p.0.0) (λ q. and_then (made_of p.0.1) (λ r. and_then (only_if (nat_eq q.0 r.0) q.0) (λ c. equal_parts (elements q.1) (elements r.1)))) u p.2 in
      let r = then_some (made_of p.0.1) (λ r. and_then (only_if (nat_eq q.0.0 r.0) q.0.0) (λ c. equal_parts (elements q.0.1) (elements r.1))) u q.2 in
      let s = then_some (only_if (nat_eq q.0.0 r.0.0) q.0.0) (λ c. equal_parts (elements q.0.1) (elements r.0.1)) u r.2 in
      let g = good_binary equality t p.0 p.1 h in
      let left : EachPuts P q.0.1 = subst Good (made_is p.0.0 q.0 q.1) g.0 in
      let right : EachPuts P r.0.1 = subst Good (made_is p.0.1 r.0 r.1) g.1 in
      parts_good (elements q.0.1) (elements r.0.1) u (all_elements P made q.0.1 left) (all_elements P made r.0.1 right) s.2

  eq_con_diff_good : Keeps eq_con_diff
  eq_con_diff_good t u e h =
      let p = then_some (binary equality t) (λ p. and_then (made_of p.0) (λ q. and_then (made_of p.1) (λ r. only_if (not (nat_eq q.0 r.0)) (truth false)))) u e in
      let q = then_some (made_of p.0.0) (λ q. and_then (made_of p.0.1) (λ r. only_if (not (nat_eq q.0 r.0)) (truth false))) u p.2 in
      let r = then_some (made_of p.0.1) (λ r. only_if (not (nat_eq q.0.0 r.0)) (truth false)) u q.2 in good_if_truth (not (nat_eq q.0.0 r.0.0)) false u r.2

  eq_suc_good : Keeps eq_suc
  eq_suc_good t u e h =
      let p = then_some (binary equality t) (λ p. and_then (unary successor p.0) (λ x. and_then (unary successor p.1) (λ y. Some (equation x y)))) u e in
      let q = then_some (unary successor p.0.0) (λ x. and_then (unary successor p.0.1) (λ y. Some (equation x y))) u p.2 in
      let r = then_some (unary successor p.0.1) (λ y. Some (equation q.0 y)) u q.2 in
      let g = good_binary equality t p.0 p.1 h in
      let s : equation q.0 r.0 ≡ u = some_same r.2 in
      subst Good s (good_unary successor p.0.0 q.0 q.1 g.0, (good_unary successor p.0.1 r.0 r.1 g.1, tt))

  zero_good : (x y u : Tree) → zero_successor x y ≡ Some u → Good u
  zero_good x y u e =
      let p = then_some (number_of x) (λ i. and_then (unary successor y) (λ z. only_if (nat_eq i 0) (truth false))) u e in
      let q = then_some (unary successor y) (λ z. only_if (nat_eq p.0 0) (truth false)) u p.2 in good_if_truth (nat_eq p.0 0) false u q.2

  either_good : (o o' : Option Tree) (u : Tree) → (o ≡ Some u → Good u) → (o' ≡ Some u → Good u) → or_else o o' ≡ Some u → Good u
  either_good None o' u f g e = g e
  either_good (Some x) o' u f g e = f e

  eq_zero_suc_good : Keeps eq_zero_suc
  eq_zero_suc_good t u e h =
      let p = then_some (binary equality t) (λ p. or_else (zero_successor p.0 p.1) (zero_successor p.1 p.0)) u e in
      either_good (zero_successor p.0.0 p.0.1) (zero_successor p.0.1 p.0.0) u (zero_good p.0.0 p.0.1 u) (zero_good p.0.1 p.0.0 u) p.2

  eq_suc_lit_good : Keeps eq_suc_lit
  eq_suc_lit_good t u e h =
      let p = then_some (binary equality t) (λ p. or_else
      (and_then (unary successor p.0) (λ a. and_then (number_of p.1) (λ i. and_then (before i) (λ m. Some (equation a (literal m))))))
      (and_then (unary successor p.1) (λ a. and_then (number_of p.0) (λ i. and_then (before i) (λ m. Some (equation (literal m) a)))))) u e in
      let g = good_binary equality t p.0 p.1 h in
      either_good (and_then (unary successor p.0.0) (λ a. and_then (number_of p.0.1) (λ i. and_then (before i) (λ m. Some (equation a (literal m))))))
      (and_then (unary successor p.0.1) (λ a. and_then (number_of p.0.0) (λ i. and_then (before i) (λ m. Some (equation (literal m) a))))) u
      (λ f. let q = then_some (unary successor p.0.0) (λ a. and_then (number_of p.0.1) (λ i. and_then (before i) (λ m. Some (equation a (literal m))))) u f in
      let r = then_some (number_of p.0.1) (λ i. and_then (before i) (λ m. Some (equation q.0 (literal m)))) u q.2 in
      let s = then_some (before r.0) (λ m. Some (equation q.0 (literal m))) u r.2 in
      let k : equation q.0 (literal s.0) ≡ u = some_same s.2 in subst Good k (good_unary successor p.0.0 q.0 q.1 g.0, (tt, tt)))
      (λ f. let q = then_some (unary successor p.0.1) (λ a. and_then (number_of p.0.0) (λ i. and_then (before i) (λ m. Some (equation (literal m) a)))) u f in
      let r = then_some (number_of p.0.0) (λ i. and_then (before i) (λ m. Some (equation (literal m) q.0))) u q.2 in
      let s = then_some (before r.0) (λ m. Some (equation (literal m) q.0)) u r.2 in
      let k : equation (literal s.0) q.0 ≡ u = some_same s.2 in subst Good k (tt, (good_unary successor p.0.1 q.0 q.1 g.1, tt))) p.2

  eq_truth_good : (b : Bool) (f : Tree → Tree) → GoodFor f → Keeps (eq_truth b f)
  eq_truth_good b f g t u e h =
      either_good (right_truth equality b f t) (left_truth equality b f t) u (λ k. right_keeps equality b f g t u k h) (λ k. left_keeps equality b f g t u k h) e

  suc_lit_good : Keeps suc_lit
  suc_lit_good t u e h =
      let p = then_some (unary successor t) (λ x. and_then (number_of x) (λ i. small (i + 1))) u e in
      let q = then_some (number_of p.0) (λ i. small (i + 1)) u p.2 in good_small (q.0 + 1) u q.2

  abbrev AllKeep : List Row → Type 0
  AllKeep [] = Unit {0}
  AllKeep (f ∷ fs) = Keeps f × AllKeep fs

  one_keeps : (fs : List Row) (k : ℕ) (f : Row) → AllKeep fs → slice_get fs k ≡ Some f → Keeps f
  one_keeps [] k f h e = cc e
  one_keeps (g ∷ fs) zero f h e = let p : g ≡ f = cc e in subst (λ (x : Row). Keeps x) p h.0
  one_keeps (g ∷ fs) (suc k) f h e = one_keeps fs k f h.1 e

  all_keep : AllKeep (rows th)
  all_keep = (
    not_truth_keeps true,
    (
      not_truth_keeps false,
      (
        not_not_keeps,
        (
          left_keeps conjunction true itself good_itself,
          (
            left_keeps conjunction false (always false) (good_always false),
            (
              right_keeps conjunction true itself good_itself,
              (
                right_keeps conjunction false (always false) (good_always false),
                (
                  alike_keeps conjunction itself good_itself,
                  (
                    left_keeps disjunction true (always true) (good_always true),
                    (
                      left_keeps disjunction false itself good_itself,
                      (
                        right_keeps disjunction true (always true) (good_always true),
                        (
                          right_keeps disjunction false itself good_itself,
                          (
                            alike_keeps disjunction itself good_itself,
                            (
                              left_keeps implication true itself good_itself,
                              (
                                left_keeps implication false (always true) (good_always true),
                                (
                                  right_keeps implication true (always true) (good_always true),
                                  (
                                    right_keeps implication false denied good_denied,
                                    (
                                      alike_keeps implication (always true) (good_always true),
                                      (
                                        if_truth_keeps true,
                                        (
                                          if_truth_keeps false,
                                          (
                                            if_same_keeps,
                                            (
                                              let_keeps,
                                              (
                                                case_keeps (from_constructor th) good_constructor,
                                                (
                                                  case_keeps from_successor good_successor,
                                                  (
                                                    case_keeps from_literal good_literal,
                                                    (
                                                      def_keeps,
                                                      (
                                                        unfold_keeps (from_constructor th) good_constructor,
                                                        (
                                                          unfold_keeps from_successor good_successor,
                                                          (
                                                            unfold_keeps from_literal good_literal,
                                                            (
                                                              alike_keeps equality (always true) (good_always true),
                                                              (
                                                                eq_con_good,
                                                                (
                                                                  eq_con_diff_good,
                                                                  (
                                                                    literals_keep equality _ (λ i j u e. good_if_truth (not (nat_eq i j)) false u e),
                                                                    (
                                                                      eq_suc_good,
                                                                      (
                                                                        eq_zero_suc_good,
                                                                        (
                                                                          eq_suc_lit_good,
                                                                          (
                                                                            eq_truth_good true itself good_itself,
                                                                            (
                                                                              eq_truth_good false denied good_denied,
                                                                              (
                                                                                suc_lit_good,
                                                                                (
                                                                                  literals_keep plus _ (λ i j u e. good_small (i + j) u e),
                                                                                  (
                                                                                    literals_keep minus _ (λ i j u e. good_small (i - j) u e),
                                                                                    (
                                                                                      literals_keep times _ (λ i j u e. good_small (i * j) u e),
                                                                                      (
                                                                                        literals_keep divide _ (λ i j u e. good_small (quotient i j) u e),
                                                                                        (
                                                                                          literals_keep modulo _ (λ i j u e. good_small (remainder i j) u e),
                                                                                          (
                                                                                            alike_keeps less (always false) (good_always false),
                                                                                            (
                                                                                              literals_keep less _ (λ i j u e. good_truth (nat_lt i j) u e),
                                                                                              (alike_keeps less_equal (always true) (good_always true), (literals_keep less_equal _ (λ i j u e. good_truth (nat_le i j) u e), tt)),
                                                                                            ),
                                                                                          ),
                                                                                        ),
                                                                                      ),
                                                                                    ),
                                                                                  ),
                                                                                ),
                                                                              ),
                                                                            ),
                                                                          ),
                                                                        ),
                                                                      ),
                                                                    ),
                                                                  ),
                                                                ),
                                                              ),
                                                            ),
                                                          ),
                                                        ),
                                                      ),
                                                    ),
                                                  ),
                                                ),
                                              ),
                                            ),
                                          ),
                                        ),
                                      ),
                                    ),
                                  ),
                                ),
                              ),
                            ),
                          ),
                        ),
                      ),
                    ),
                  ),
                ),
              ),
            ),
          ),
        ),
      ),
    ),
  )

  pub row_keeps : (s : ℕ) (t u : Tree) → row th s t ≡ Some u → Good t → Good u
  row_keeps zero t u e h = cc e
  row_keeps (suc k) t u e h = let p = then_some (slice_get (rows th) k) (λ (f : Row). f t) u e in one_keeps (rows th) k p.0 all_keep p.1 t u p.2 h

pub rows_keep_inputs : RowsKeepInputs
rows_keep_inputs th accepted tb env d s t u e h = row_keeps th accepted (HaveValues th tb env d) (λ ts k. k.made) s t u e h
