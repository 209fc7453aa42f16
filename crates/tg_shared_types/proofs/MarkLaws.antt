-- Laws of marks, and what a table settles to where no further node can be marked.
use Rattle.std.proofs.Common.{ℕ, zero, suc, ◌≡◌, ◌<◌, ◌≤◌, Bool as Truth, true, false, List, [], ◌∷◌, length, set, replicate, nat_eq, if◌then◌else◌, refl, ap, sym, ◌∙◌, subst, arith, inl, inr}
use Rattle.std.specs.Prelude.{◌≢◌}
use Rattle.std.proofs.lemmas.Bool.{eq-eqb}
use Rattle.std.proofs.lemmas.Bool.Decides.{eqb_tells}
use Rattle.std.proofs.lemmas.List.{get_or-set_same, get_or-set_other, length-set, length-replicate}
use Rattle.tg_model.specs.Types as model
use Rattle.tg_types.specs.Substitutions.{Assignment}
use Rattle.tg_shared_types.specs.declared.nodes.Node.{Node}
use Rattle.tg_shared_types.specs.declared.nodes.Node.TheVariants.{Open, Link, Nat, Bool, Param, App}
use Rattle.tg_shared_types.specs.Nodes.{types_of, Says, node_at, Fits, AreBelow, Names, IsNodeTable}
use Rattle.tg_shared_types.specs.Marks.{is_marked, all_marked, is_ready, Built, AgreeAtOpen, AreMarks, IsStuck, unmarked}
use Rattle.tg_shared_types.specs.Settled.{HasOne, HasSeveral}
use Rattle.tg_shared_types.proofs.Sizes.{size, sizes}
use Rattle.tg_shared_types.proofs.PartLaws.{ready_parts, says_same, value, says_value, says_alike}

-- a place with a mark is one of the list
marked_inside : (ys : List Truth) (k : ℕ) → is_marked ys k ≡ true → k < length ys
marked_inside [] k e = absurd cc
marked_inside (y ∷ ys) zero e = omega arith
marked_inside (y ∷ ys) (suc k) e = let h = marked_inside ys k e in omega arith

pub marked_here : (ys : List Truth) (i : ℕ) → i < length ys → is_marked (set ys i true) i ≡ true
marked_here ys i h = get_or-set_same ys i true false h

marked_other : (ys : List Truth) (i j : ℕ) → j ≢ i → is_marked (set ys i true) j ≡ is_marked ys j
marked_other ys i j d = get_or-set_other ys i j true false d

marked_more : (ys : List Truth) (i k : ℕ) → i < length ys → is_marked ys k ≡ true → is_marked (set ys i true) k ≡ true
marked_more ys i k h e = elim (eqb_tells k i) [
  | inl p ↦ subst (λ x. is_marked (set ys i true) x ≡ true) (sym p.1) (marked_here ys i h)
  | inr p ↦ marked_other ys i k p.1 ∙ e
]

all_more : (ys : List Truth) (i : ℕ) (ks : List ℕ) → i < length ys → all_marked ys ks ≡ true → all_marked (set ys i true) ks ≡ true
all_more ys i [] h e = refl
all_more ys i (k ∷ ks) h e = go (is_marked ys k) refl e (all_more ys i ks h) where
  go : (b : Truth) → is_marked ys k ≡ b → (if b then all_marked ys ks else false) ≡ true → (all_marked ys ks ≡ true → all_marked (set ys i true) ks ≡ true) →
      (if is_marked (set ys i true) k then all_marked (set ys i true) ks else false) ≡ true
  go true p f rest = rw (marked_more ys i k h p) (rest f)
  go false p f rest = absurd cc

ready_more : (ys : List Truth) (i : ℕ) (node : Node) → i < length ys → is_ready ys node ≡ true → is_ready (set ys i true) node ≡ true
ready_more ys i Open h e = refl
ready_more ys i (Link k) h e = marked_more ys i k h e
ready_more ys i Nat h e = refl
ready_more ys i Bool h e = refl
ready_more ys i (Param m) h e = refl
ready_more ys i (App d ks) h e = all_more ys i ks h e

pub marks_fewer : (ys : List Truth) (i : ℕ) → i < length ys → is_marked ys i ≡ false → suc (unmarked (set ys i true)) ≡ unmarked ys
marks_fewer [] i h e = absurd (omega (arith, h))
marks_fewer (true ∷ ys) zero h e = absurd cc
marks_fewer (false ∷ ys) zero h e = refl
marks_fewer (true ∷ ys) (suc i) h e = marks_fewer ys i (omega (arith, h)) e
marks_fewer (false ∷ ys) (suc i) h e = ap suc (marks_fewer ys i (omega (arith, h)) e)

-- one more node marked
module _ (ns : List Node) (ys : List Truth) (i : ℕ) (m : AreMarks ns ys) (h : i < length ns)
    (free : is_marked ys i ≡ false) (ready : is_ready ys (node_at ns i) ≡ true) where
  next : List Truth
  next = set ys i true

  within : i < length ys
  within = let e = m.long in omega arith

  -- a node with a mark is another one
  apart : (k : ℕ) → is_marked ys k ≡ true → k ≢ i
  apart k e p = let f : is_marked ys i ≡ true = subst (λ x. is_marked ys x ≡ true) p e in cc

  earlier : (k : ℕ) → k ≢ i → is_marked next k ≡ true → is_marked ys k ≡ true
  unfolding next
  earlier k d e = sym (marked_other ys i k d) ∙ e

  closed : (j : ℕ) → j < length ns → is_marked next j ≡ true → is_ready next (node_at ns j) ≡ true
  unfolding next
  closed j k e = elim (eqb_tells j i) [
    | inl p ↦ subst (λ x. is_ready (set ys i true) (node_at ns x) ≡ true) (sym p.1) (ready_more ys i (node_at ns i) within ready)
    | inr p ↦ ready_more ys i (node_at ns j) within (m.closed j k (earlier j p.1 e))
  ]

  -- the type of the node added to those of the others
  with_type : (c : Assignment) → Built ns ys c → Assignment
  with_type c b k = if nat_eq k i then value b.types (c i) (node_at ns i) else b.types k

  type_here : (c : Assignment) (b : Built ns ys c) → with_type c b i ≡ value b.types (c i) (node_at ns i)
  unfolding with_type
  type_here c b = rw (eq-eqb i i refl) refl

  type_other : (c : Assignment) (b : Built ns ys c) (k : ℕ) → k ≢ i → with_type c b k ≡ b.types k
  unfolding with_type
  type_other c b k d = elim (eqb_tells k i) [ inl p ↦ absurd (d p.1) | inr p ↦ rw p.0 refl ]

  says_next : (c : Assignment) (b : Built ns ys c) (j : ℕ) → j < length ns → is_marked next j ≡ true → Says (with_type c b) j (node_at ns j)
  says_next c b j k e = elim (eqb_tells j i) [
    | inl p ↦
        subst (λ x. Says (with_type c b) x (node_at ns x)) (sym p.1)
        (says_value (λ x. is_marked ys x ≡ true) b.types (with_type c b) (c i) i (node_at ns i) (ready_parts ys (node_at ns i) ready)
        (λ x f. type_other c b x (apart x f)) (type_here c b))
    | inr p ↦
        let f : is_marked ys j ≡ true = earlier j p.1 e in
        says_same (λ x. is_marked ys x ≡ true) b.types (with_type c b) j (node_at ns j) (ready_parts ys (node_at ns j) (m.closed j k f))
        (λ x g. type_other c b x (apart x g)) (type_other c b j p.1) (b.says j k f)
  ]

  free_next : (c : Assignment) (b : Built ns ys c) (j : ℕ) → j < length ns → is_marked next j ≡ true → node_at ns j ≡ Open → with_type c b j ≡ c j
  free_next c b j k e o = elim (eqb_tells j i) [
    | inl p ↦
        subst (λ x. node_at ns x ≡ Open → with_type c b x ≡ c x) (sym p.1)
        (λ q. type_here c b ∙ ap (value b.types (c i)) q) o
    | inr p ↦ type_other c b j p.1 ∙ b.free j k (earlier j p.1 e) o
  ]

  alike_old : (ρ φ : Assignment) → Fits ρ ns → Fits φ ns → AgreeAtOpen ns next ρ φ → (j : ℕ) → is_marked ys j ≡ true → ρ j ≡ φ j
  unfolding next
  alike_old ρ φ f g o j e = m.alike ρ φ f g (λ x k q n. o x k (marked_more ys i x within q) n) j (let k = marked_inside ys j e in let l = m.long in omega arith) e

  alike_next : (ρ φ : Assignment) → Fits ρ ns → Fits φ ns → AgreeAtOpen ns next ρ φ → (j : ℕ) → j < length ns → is_marked next j ≡ true → ρ j ≡ φ j
  unfolding next
  alike_next ρ φ f g o j k e = elim (eqb_tells j i) [
    | inl p ↦
        subst (λ x. ρ x ≡ φ x) (sym p.1)
        (says_alike (λ x. is_marked ys x ≡ true) ρ φ i (node_at ns i) (ready_parts ys (node_at ns i) ready) (λ x q. alike_old ρ φ f g o x q)
        (λ q. o i h (marked_here ys i within) q) (f.at i h) (g.at i h))
    | inr p ↦ alike_old ρ φ f g o j (earlier j p.1 e)
  ]

  pub marks_next : AreMarks ns (set ys i true)
  unfolding next
  marks_next = record {
    long = length-set ys i true ∙ m.long;
    closed = closed;
    built = λ c. let b = m.built c in record { types = with_type c b; says = says_next c b; free = free_next c b };
    alike = alike_next;
  }

none_marked : (n i : ℕ) → is_marked (replicate n false) i ≡ false
none_marked zero i = refl
none_marked (suc n) zero = refl
none_marked (suc n) (suc i) = none_marked n i

pub marks_none : (ns : List Node) (ys : List Truth) → ys ≡ replicate (length ns) false → AreMarks ns ys
marks_none ns ys e =
    let off : (i : ℕ) → is_marked ys i ≡ false = λ i. ap (λ zs. is_marked zs i) e ∙ none_marked (length ns) i in
    record {
      long = ap length e ∙ length-replicate (length ns) false;
      closed = λ i h f. absurd (let g = off i in cc);
      built = λ c. record { types = c; says = λ i h f. absurd (let g = off i in cc); free = λ i h f o. refl };
      alike = λ ρ φ f g o i h k. absurd (let q = off i in cc);
    }

unmarked_part : (ns : List Node) (ys : List Truth) (ρ : Assignment) (ks : List ℕ) → AreBelow (length ns) ks → all_marked ys ks ≡ false →
    (k : ℕ) × (k < length ns) × (is_marked ys k ≡ false) × (size (ρ k) ≤ sizes (types_of ρ ks))
unmarked_part ns ys ρ [] b e = absurd cc
unmarked_part ns ys ρ (k ∷ ks) b e = go (is_marked ys k) refl e (unmarked_part ns ys ρ ks b.1) where
  go : (t : Truth) → is_marked ys k ≡ t → (if t then all_marked ys ks else false) ≡ false →
      (all_marked ys ks ≡ false → (l : ℕ) × (l < length ns) × (is_marked ys l ≡ false) × (size (ρ l) ≤ sizes (types_of ρ ks))) →
      (l : ℕ) × (l < length ns) × (is_marked ys l ≡ false) × (size (ρ l) ≤ sizes (types_of ρ (k ∷ ks)))
  go true p f rest = let r = rest f in (r.0, r.1, r.2, omega (arith, r.3))
  go false p f rest = (k, b.0, p, omega arith)

-- A node without a mark has a part without one whose type is smaller, or is a link to such a node of a type as large: so no assignment
-- fits. A type would have to hold itself.
module _ (ns : List Node) (ys : List Truth) (t : IsNodeTable ns) (stuck : IsStuck ns ys) (ρ : Assignment) (fits : Fits ρ ns) where
  abbrev Below : ℕ → Type 0
  Below n = (k : ℕ) → size (ρ k) < n → k < length ns → is_marked ys k ≡ false → ⊥

  by_node : (n i : ℕ) (node : Node) → Below n → ((k : ℕ) → k < i → size (ρ k) < suc n → k < length ns → is_marked ys k ≡ false → ⊥) →
      size (ρ i) < suc n → i < length ns → Says ρ i node → Names (length ns) i node → is_ready ys node ≡ false → ⊥
  by_node n i Open b c h k s l r = cc
  by_node n i (Link j) b c h k s l r = c j l (let e : size (ρ i) ≡ size (ρ j) = ap size s in omega arith) (omega arith) r
  by_node n i Nat b c h k s l r = cc
  by_node n i Bool b c h k s l r = cc
  by_node n i (Param m) b c h k s l r = cc
  by_node n i (App d ks) b c h k s l r =
      let p = unmarked_part ns ys ρ ks l r in
      let e : size (ρ i) ≡ suc (sizes (types_of ρ ks)) = ap size s in
      b p.0 (omega (arith, p.3)) p.1 p.2

  by_place : (n m : ℕ) → Below n → (i : ℕ) → i < m → size (ρ i) < suc n → i < length ns → is_marked ys i ≡ false → ⊥
  by_place n zero b i a h k e = omega (arith, a)
  by_place n (suc m) b i a h k e =
      by_node n i (node_at ns i) b (λ j f g p q. by_place n m b j (omega (arith, f, a)) g p q) h k (fits.at i k) (t.at i k) (stuck i k e)

  by_size : (n : ℕ) → Below n
  by_size zero k h l e = omega (arith, h)
  by_size (suc n) k h l e = by_place n (suc k) (by_size n) k (omega arith) h l e

  pub stuck_none : (i : ℕ) → i < length ns → is_marked ys i ≡ false → ⊥
  stuck_none i h e = by_size (suc (size (ρ i))) i (omega arith) h e

-- where all nodes are marked
module _ (ns : List Node) (ys : List Truth) (m : AreMarks ns ys) (all : (i : ℕ) → i < length ns → is_marked ys i ≡ true) where
  built_fits : (c : Assignment) → Fits ((m.built c).types) ns
  built_fits c = record { at = λ i h. (m.built c).says i h (all i h) }

  pub settled_one : ((i : ℕ) → i < length ns → node_at ns i ≢ Open) → HasOne ns
  settled_one none = record {
    types = (m.built (λ k. model.nat)).types;
    fits = built_fits (λ k. model.nat);
    only = λ ρ f i h. m.alike ρ _ f (built_fits (λ k. model.nat)) (λ j k e o. absurd (none j k o)) i h (all i h);
  }

  pub settled_several : (i : ℕ) → i < length ns → node_at ns i ≡ Open → HasSeveral ns
  settled_several i h o = record {
    types = (m.built (λ k. model.nat)).types;
    others = (m.built (λ k. model.bool)).types;
    fits = built_fits (λ k. model.nat);
    others_fit = built_fits (λ k. model.bool);
    node = i;
    inside = h;
    differ = λ same.
        let e : model.nat ≡ model.bool = sym ((m.built (λ k. model.nat)).free i h (all i h) o) ∙ same ∙ (m.built (λ k. model.bool)).free i h (all i h) o in
        cc;
  }

pub ruleset settled = (stuck_none, settled_one, settled_several)
