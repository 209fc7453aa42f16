-- Steps of typing, one after another.
use Rattle.std.proofs.Common.{ℕ, ◌≡◌, ◌<◌, ◌≤◌, Bool, true, false, List, [], ◌∷◌, length, refl, sym, ◌∙◌, subst, arith, ap}
use Rattle.std.specs.Prelude.{map}
use Rattle.tg_model.specs.Types.{Ty}
use Rattle.tg_types.specs.Substitutions.{Assignment}
use Rattle.tg_shared_types.specs.declared.nodes.Node.{Node}
use Rattle.tg_shared_types.specs.Nodes.{Fits, AreBelow}
use Rattle.tg_shared_types.specs.Growth.{Grows}
use Rattle.tg_shared_types.specs.Uniting.{Unites, IsUnion}
use Rattle.tg_typing.specs.Growing.{Agree, Grown, IsImpossible, Outcome}

pub agree_itself : {n : ℕ} {ρ : Assignment} → Agree n ρ ρ
agree_itself = record { at = λ i h. refl }

pub agree_turned : {n : ℕ} {ρ φ : Assignment} → Agree n ρ φ → Agree n φ ρ
agree_turned a = record { at = λ i h. sym (a.at i h) }

pub agree_then : {n : ℕ} {ρ φ ψ : Assignment} → Agree n ρ φ → Agree n φ ψ → Agree n ρ ψ
agree_then a b = record { at = λ i h. a.at i h ∙ b.at i h }

pub agree_below : {m n : ℕ} {ρ φ : Assignment} → m ≤ n → Agree n ρ φ → Agree m ρ φ
agree_below h a = record { at = λ i k. a.at i (omega (arith, h, k)) }

pub same_types : {n : ℕ} {ρ φ : Assignment} (ks : List ℕ) → AreBelow n ks → Agree n ρ φ → map ρ ks ≡ map φ ks
same_types [] b a = refl
same_types (k ∷ ks) b a = λ i. a.at k b.0 i ∷ same_types ks b.1 a i

-- how what two steps ask for, one after the other, makes what is asked for in all
pub record Makes {A B C : Type 0} (old mid : List Node) (read : Assignment → A) (First : Assignment → A → Type 0) (Second : Assignment → B → Type 0)
    (make : A → B → C) (Whole : Assignment → C → Type 0) : Type 0 where
  pub there : (ρ : Assignment) (b : B) → Fits ρ mid → First ρ (read ρ) → Second ρ b → Whole ρ (make (read ρ) b)
  pub back : (ρ : Assignment) (c : C) → Fits ρ old → Whole ρ c →
      (a : A) × First ρ a × ((φ : Assignment) → Fits φ mid → Agree (length old) φ ρ → read φ ≡ a → (b : B) × Second φ b × (make a b ≡ c))
  pub apart : (ρ φ : Assignment) (b b' : B) → Fits ρ mid → Fits φ mid → First ρ (read ρ) → First φ (read φ) → Second ρ b → Second φ b' →
      make (read ρ) b ≡ make (read φ) b' → (read ρ ≡ read φ) × (b ≡ b')

module _ {A B C : Type 0} {old mid : List Node} {read : Assignment → A} {First : Assignment → A → Type 0} {Second : Assignment → B → Type 0}
    {make : A → B → C} {Whole : Assignment → C → Type 0} (first : Grown old mid A read First) (makes : Makes old mid read First Second make Whole) where
  -- the second step after the first
  pub grown_in_turn : {new : List Node} {more : Assignment → B} → Grown mid new B more Second → Grown old new C (λ ρ. make (read ρ) (more ρ)) Whole
  grown_in_turn {new} {more} second = record {
    longer = let a = first.longer in let b = second.longer in omega arith;
    older = λ ρ f. first.older ρ (second.older ρ f);
    sound = λ ρ f.
        let g = second.older ρ f in
        makes.there ρ (more ρ) g (first.sound ρ g) (second.sound ρ f);
    complete = λ ρ c f w.
        let x = makes.back ρ c f w in
        let y = first.complete ρ x.0 f x.1 in
        let z = x.2 y.types y.fits y.same y.reads in
        let r = second.complete y.types z.0 y.fits z.1 in
        record {
          types = r.types;
          fits = r.fits;
          same = agree_then (agree_below first.longer r.same) y.same;
          reads = (λ i. make ((first.local r.types y.types r.same ∙ y.reads) i) (r.reads i)) ∙ z.2;
        };
    determined = λ ρ φ f g e h.
        let f' = second.older ρ f in
        let g' = second.older φ g in
        let both = makes.apart ρ φ (more ρ) (more φ) f' g' (first.sound ρ f') (first.sound φ g') (second.sound ρ f) (second.sound φ g) h in
        second.determined ρ φ f g (first.determined ρ φ f' g' e both.0) both.1;
    local = λ ρ φ e. λ i. make (first.local ρ φ (agree_below second.longer e) i) (second.local ρ φ e i);
  }

  stuck : IsImpossible mid B Second → IsImpossible old C Whole
  stuck second ρ c f w =
      let x = makes.back ρ c f w in
      let y = first.complete ρ x.0 f x.1 in
      let z = x.2 y.types y.fits y.same y.reads in
      second y.types z.0 y.fits z.1

  pub in_turn : (new : List Node) (ok : Bool) → Outcome mid new B Second ok → Outcome old new C Whole ok
  in_turn new true second = record { read = λ ρ. make (read ρ) (second.read ρ); grown = grown_in_turn second.grown }
  in_turn new false second = stuck second

-- the same, where the first step shows that nothing is what is asked for
pub stuck_first : {A C : Type 0} {old : List Node} {First : Assignment → A → Type 0} {Whole : Assignment → C → Type 0} → IsImpossible old A First →
    ((ρ : Assignment) (c : C) → Fits ρ old → Whole ρ c → (a : A) × First ρ a) → IsImpossible old C Whole
stuck_first first back ρ c f w = let x = back ρ c f w in first ρ x.0 f x.1

-- nothing is read, and nothing is asked for
abbrev pub Nothing : Assignment → Unit {0} → Type 0
Nothing ρ a = Unit {0}

pub grown_nothing : (ns : List Node) → Grown ns ns (Unit {0}) (λ ρ. tt) Nothing
grown_nothing ns = record {
  longer = omega arith;
  older = λ ρ f. f;
  sound = λ ρ f. tt;
  complete = λ ρ a f w. record { types = ρ; fits = f; same = agree_itself; reads = refl };
  determined = λ ρ φ f g e h. e;
  local = λ ρ φ e. refl;
}

-- declared types that were planted
pub grown_of : {old new : List Node} → Grows old new → Grown old new (Unit {0}) (λ ρ. tt) Nothing
grown_of g = record {
  longer = g.longer;
  older = g.older;
  sound = λ ρ f. tt;
  complete = λ ρ a f w.
      let x = g.extends ρ f in
      record { types = x.types; fits = x.fits; same = record { at = x.same }; reads = refl };
  determined = λ ρ φ f g' e h. record { at = g.determined ρ φ f g' e.at };
  local = λ ρ φ e. refl;
}

-- In a table that has grown by declared types, the two nodes have one type.
abbrev pub Meet : List Node → List Node → ℕ → ℕ → Assignment → Unit {0} → Type 0
Meet old mid i j ρ a = (φ : Assignment) → Fits φ mid → Agree (length old) φ ρ → φ i ≡ φ j

pub grown_united : {old mid : List Node} (new : List Node) (i j : ℕ) → Grows old mid → i < length mid → j < length mid → IsUnion mid i j new →
    Grown old new (Unit {0}) (λ ρ. tt) (Meet old mid i j)
grown_united {old} {mid} new i j g hi hj u = record {
  longer = let a = g.longer in let b = u.long in omega arith;
  older = λ ρ f. g.older ρ ((u.same ρ).0 f).0;
  sound = λ ρ f φ h e.
      let k = (u.same ρ).0 f in
      let same = g.determined φ ρ h k.0 e.at in
      same i hi ∙ k.1 ∙ sym (same j hj);
  complete = λ ρ a f w.
      let x = g.extends ρ f in
      let e : Agree (length old) x.types ρ = record { at = x.same } in
      record { types = x.types; fits = (u.same x.types).1 (x.fits, w x.types x.fits e); same = e; reads = refl };
  determined = λ ρ φ f h e r. record {
    at = λ k l. g.determined ρ φ ((u.same ρ).0 f).0 ((u.same φ).0 h).0 e.at k (subst (λ n. k < n) u.long l);
  };
  local = λ ρ φ e. refl;
}

pub united : {old mid : List Node} (new : List Node) (i j : ℕ) (ok : Bool) → Grows old mid → i < length mid → j < length mid → Unites ok mid i j new →
    Outcome old new (Unit {0}) (Meet old mid i j) ok
united {old} {mid} new i j true g hi hj u = record { read = λ ρ. tt; grown = grown_united new i j g hi hj u }
united {old} {mid} new i j false g hi hj u = λ ρ a f w.
    let x = g.extends ρ f in
    u x.types x.fits (w x.types x.fits (record { at = x.same }))

-- the type of a node
pub named : (ns : List Node) (e : ℕ) → e < length ns → Grown ns ns Ty (λ ρ. ρ e) (λ ρ t. t ≡ ρ e)
named ns e h = record {
  longer = omega arith;
  older = λ ρ f. f;
  sound = λ ρ f. refl;
  complete = λ ρ t f w. record { types = ρ; fits = f; same = agree_itself; reads = sym w };
  determined = λ ρ φ f g a r. a;
  local = λ ρ φ a. a.at e h;
}

-- types that were planted, which those of the old nodes settle
pub planted : {old new : List Node} (ks : List ℕ) (P : Assignment → List Ty → Type 0) → Grows old new → AreBelow (length new) ks →
    ((ρ : Assignment) → Fits ρ new → P ρ (map ρ ks)) →
    ((ρ φ : Assignment) (ts : List Ty) → Fits φ new → Agree (length old) φ ρ → P ρ ts → map φ ks ≡ ts) → Grown old new (List Ty) (λ ρ. map ρ ks) P
planted {old} {new} ks P g b sound only = record {
  longer = g.longer;
  older = g.older;
  sound = sound;
  complete = λ ρ ts f w.
      let x = g.extends ρ f in
      let e : Agree (length old) x.types ρ = record { at = x.same } in
      record { types = x.types; fits = x.fits; same = e; reads = only ρ x.types ts x.fits e w };
  determined = λ ρ φ f h e r. record { at = g.determined ρ φ f h e.at };
  local = λ ρ φ e. same_types ks b e;
}

-- what is read of a table that grows on by declared types
pub grown_on : {A : Type 0} {old mid new : List Node} {read : Assignment → A} {Asked : Assignment → A → Type 0} → Grown old mid A read Asked →
    Grows mid new → Grown old new A read Asked
grown_on {A} {old} {mid} {new} {read} {Asked} first g = grown_in_turn first makes (grown_of g) where
  makes : Makes old mid read Asked Nothing (λ a b. a) Asked
  makes = record {
    there = λ ρ b f p q. p;
    back = λ ρ a f w. (a, w, λ φ g e r. (tt, tt, refl));
    apart = λ ρ φ b c f g p p' q q' r. (r, refl);
  }

-- what is read, and the type of an old node
pub with_named : {A : Type 0} {old new : List Node} {read : Assignment → A} {Asked : Assignment → A → Type 0} (e : ℕ) → e < length old →
    Grown old new A read Asked → Grown old new (Ty × A) (λ ρ. (ρ e, read ρ)) (λ ρ x. (x.0 ≡ ρ e) × Asked ρ x.1)
with_named {A} {old} {new} {read} {Asked} e h first = record {
  longer = first.longer;
  older = first.older;
  sound = λ ρ f. (refl, first.sound ρ f);
  complete = λ ρ x f w.
      let y = first.complete ρ x.1 f w.1 in
      record { types = y.types; fits = y.fits; same = y.same; reads = λ i. ((y.same.at e h ∙ sym w.0) i, y.reads i) };
  determined = λ ρ φ f g a r. first.determined ρ φ f g a (ap (λ x. x.1) r);
  local = λ ρ φ a. λ i. (a.at e (let l = first.longer in omega arith) i, first.local ρ φ a i);
}
