-- Laws of the visits of nodes.
use Rattle.std.proofs.Common.{ℕ, zero, suc, ◌≡◌, ◌+◌, ◌<◌, ◌≤◌, Bool as Truth, true, false, List, [], ◌∷◌, ◌++◌, length, get_or, set, ap, sym, ◌∙◌, subst, arith}
use Rattle.std.proofs.lemmas.List.{length-append, get_or_read}
use Rattle.tg_shared_types.specs.declared.nodes.Node.{Node}
use Rattle.tg_shared_types.specs.declared.nodes.Node.TheVariants.{Open, Link, Nat, Bool, Param, App}
use Rattle.tg_shared_types.specs.Nodes.{node_at, AreBelow, Names, IsNodeTable}
use Rattle.tg_shared_types.specs.Marks.{is_marked, parts_of, visits}

pub visits_set : (ns : List Node) (ys : List Truth) (i : ℕ) → i < length ns → i < length ys → is_marked ys i ≡ false →
    visits ns (set ys i true) + suc (suc (length (parts_of (node_at ns i)))) ≡ visits ns ys
visits_set [] ys i h k e = absurd (omega (arith, h))
visits_set (n ∷ ns) [] i h k e = absurd (omega (arith, k))
visits_set (n ∷ ns) (true ∷ ys) zero h k e = absurd cc
visits_set (n ∷ ns) (false ∷ ys) zero h k e = omega arith
visits_set (n ∷ ns) (y ∷ ys) (suc i) h k e = let p = visits_set ns ys i (omega (arith, h)) (omega (arith, k)) e in omega arith

pub listed_append : (n : ℕ) (ks ls : List ℕ) → AreBelow n ks → AreBelow n ls → AreBelow n (ks ++ ls)
listed_append n [] ls a b = b
listed_append n (k ∷ ks) ls a b = (a.0, listed_append n ks ls a.1 b)

pub append_listed : (n : ℕ) (ks ls : List ℕ) → AreBelow n (ks ++ ls) → AreBelow n ks × AreBelow n ls
append_listed n [] ls a = (tt, a)
append_listed n (k ∷ ks) ls a = let r = append_listed n ks ls a.1 in ((a.0, r.0), r.1)

pub listed_more : (m n : ℕ) (ks : List ℕ) → m ≤ n → AreBelow m ks → AreBelow n ks
listed_more m n [] h a = tt
listed_more m n (k ∷ ks) h a = (omega (arith, a.0, h), listed_more m n ks h a.1)

named_listed : (n i : ℕ) (node : Node) → i < n → Names n i node → AreBelow n (parts_of node)
named_listed n i Open h s = tt
named_listed n i (Link k) h s = (omega (arith, h, s), tt)
named_listed n i Nat h s = tt
named_listed n i Bool h s = tt
named_listed n i (Param m) h s = tt
named_listed n i (App d ks) h s = s

pub listed_next : (i : ℕ) (ks : List ℕ) → AreBelow i ks → AreBelow (i + 1) (ks ++ i ∷ [])
listed_next i ks a = listed_append (i + 1) ks (i ∷ []) (listed_more i (i + 1) ks (omega arith) a) (omega arith, tt)

pub popped : (n : ℕ) (list rest : List ℕ) (at : ℕ) → list ≡ rest ++ at ∷ [] → AreBelow n list → AreBelow n rest × (at < n)
popped n list rest at e b = let r = append_listed n rest (at ∷ []) (subst (AreBelow n) e b) in (r.0, r.1.0)

-- the list of visits after a node that wasn't visited
module _ (ns : List Node) (ys : List Truth) (list pushed next : List ℕ) (at : ℕ) (node : Node)
    (t : IsNodeTable ns) (long : length ys ≡ length ns) (below : AreBelow (length ns) list) (inside : at < length ns)
    (read : node ≡ get_or ns at node) (free : is_marked ys at ≡ false) (again : pushed ≡ list ++ at ∷ []) (parts : next ≡ pushed ++ parts_of node) where
  is_node : node ≡ node_at ns at
  is_node = get_or_read ns at node inside read Open

  pub next_below : AreBelow (length ns) next
  next_below = subst (AreBelow (length ns)) (sym parts)
      (listed_append (length ns) pushed (parts_of node)
      (subst (AreBelow (length ns)) (sym again) (listed_append (length ns) list (at ∷ []) below (inside, tt)))
      (subst (λ x. AreBelow (length ns) (parts_of x)) (sym is_node) (named_listed (length ns) at (node_at ns at) inside (t.at at inside))))

  pub next_fewer : visits ns (set ys at true) + length next ≤ visits ns ys + length list
  next_fewer =
      let a = visits_set ns ys at inside (omega (arith, inside, long)) free in
      let e : length next ≡ length pushed + length (parts_of node) = ap length parts ∙ length-append pushed (parts_of node) in
      let f : length pushed ≡ length list + 1 = ap length again ∙ length-append list (at ∷ []) in
      let g : length (parts_of node) ≡ length (parts_of (node_at ns at)) = ap (λ x. length (parts_of x)) is_node in
      omega arith
