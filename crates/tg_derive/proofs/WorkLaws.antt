-- The work on goals, one after the other.
use Rattle.std.proofs.Common.{ℕ, ◌≡◌, ◌<◌, ◌+◌, ◌*◌, ◌-◌, Bool, true, false, Option, List, [], ◌∷◌, ◌++◌, Some, None, refl, ap, sym, ◌∙◌, subst, arith, append_assoc}
use Rattle.std.proofs.lemmas.List.{append-nil}
use Rattle.tg_model.specs.Tree.{Tree}
use Rattle.tg_model.specs.Theory.{Theory}
use Rattle.tg_norm.specs.Halves.{condition_of, replaced, IsSplit, AreHalves}
use Rattle.tg_norm.specs.declared.splitting.Branches.{Branches}
use Rattle.tg_clause.specs.Clauses.{Clause, clauses_of}
use Rattle.tg_derive.specs.declared.budgets.Left.{Left}
use Rattle.tg_derive.specs.declared.errors.LimitErr.{LimitErr}
use Rattle.tg_derive.specs.declared.errors.LimitErr.TheVariants.{Patterns, Splits, Steps, Clauses, Memory}
use Rattle.tg_derive.specs.Goals.{Goal, child, signed, under}
use Rattle.tg_derive.specs.Answers.{Stops, stacked}
use Rattle.tg_derive.specs.Work as work
use Rattle.tg_derive.specs.Work.{Worked, done, passed, before, Work, at_end, without_form, without_split, at_split, without_clauses, at_leaf, IsFormed, has_room, after_walk, after_split, after_clauses, leaf}
use Rattle.tg_derive.specs.Working.{IsReached, IsTurn, IsFormTaken, IsFormless, IsSplitTaken, IsSplitless, IsLeafTaken, IsOverfull}

pub before_none : {A : Type 0} (o : Worked A) → before [] o ≡ o
before_none (done found left) = refl
before_none (passed limit) = refl

pub before_both : {A : Type 0} (xs ys : List A) (o : Worked A) → before xs (before ys o) ≡ before (xs ++ ys) o
before_both xs ys (done found left) = ap (λ l. done l left) (sym (append_assoc xs ys found))
before_both xs ys (passed limit) = refl

module _ (th : Theory) where
  pub reached_itself : (b : Left) (gs : List Goal) → IsReached th b gs [] b gs
  reached_itself b gs = record { on = λ o h. subst (λ (x : Worked Clause). Work th b gs x) (sym (before_none o)) h }

  pub turned : (b m e : Left) (gs hs rest : List Goal) (cs ds : List Clause) → IsReached th b gs cs m hs → IsTurn th m hs cs e rest ds
      → IsReached th b gs ds e rest
  turned b m e gs hs rest cs ds r t = record {
    on = λ o h. subst (λ (x : Worked Clause). Work th b gs x) (before_both cs t.more o ∙ ap (λ l. before l o) (sym t.found))
        (r.on (before t.more o) (t.reached.on o h));
  }

  pub reached_end : (b e : Left) (gs : List Goal) (cs : List Clause) → IsReached th b gs cs e [] → Work th b gs (done cs e)
  reached_end b e gs cs r = subst (λ l. Work th b gs (done l e)) (append-nil cs) (r.on (done [] e) (at_end refl))

  pub reached_stop : (b m : Left) (gs hs : List Goal) (cs : List Clause) (e : LimitErr) → IsReached th b gs cs m hs → Stops (Work th m hs) e
      → Stops (Work th b gs) e
  reached_stop b m gs hs cs Patterns r h = r.on (passed work.patterns) h
  reached_stop b m gs hs cs Splits r h = r.on (passed work.splits) h
  reached_stop b m gs hs cs Steps r h = r.on (passed work.steps) h
  reached_stop b m gs hs cs Clauses r h = r.on (passed work.clauses) h
  reached_stop b m gs hs cs Memory r h = h

  pub formless : (b : Left) (g : Goal) (gs : List Goal) (e : LimitErr) → IsFormless th b g.term e → Stops (Work th b (g ∷ gs)) e
  formless b g gs Patterns h = absurd h
  formless b g gs Splits h = absurd h
  formless b g gs Steps h = without_form h refl
  formless b g gs Clauses h = absurd h
  formless b g gs Memory h = h

  module _ (b m : Left) (g : Goal) (gs : List Goal) (form : Tree) (f : IsFormTaken th b m g.term form) where
    formed : IsFormed th b g f.walk
    formed = record { walk = f.is; within = f.within }

    at_form : (o : _) → condition_of form ≡ o → condition_of f.walk.form ≡ o
    at_form o e = ap condition_of (sym f.same) ∙ e

    pub splitless : (q : Tree) (e : LimitErr) → condition_of form ≡ Some q → IsSplitless m e → Stops (Work th b (g ∷ gs)) e
    splitless q Patterns c h = absurd h
    splitless q Splits c h = without_split f.walk q formed (at_form (Some q) c) (ap (λ (x : Left). x.splits) (sym f.left) ∙ h) refl
    splitless q Steps c h = absurd h
    splitless q Clauses c h = absurd h
    splitless q Memory c h = h

    -- with the answer of a split
    split_by : (o : Option Tree) (bs : Branches) → IsSplit form o (Some bs) → (q : Tree) × (o ≡ Some q) × AreHalves form q bs
    split_by None bs h = absurd (cc h)
    split_by (Some q) bs h = (q, refl, h)

    leaf_by : (o : Option Tree) → IsSplit form o None → o ≡ None
    leaf_by None h = refl
    leaf_by (Some q) h = absurd h

    pub split_stop : (bs : Branches) (e : LimitErr) → IsSplit form (condition_of form) (Some bs) → IsSplitless m e → Stops (Work th b (g ∷ gs)) e
    split_stop bs e h l = let s = split_by (condition_of form) bs h in splitless s.0 e s.1 l

    pub split_turn : (e : Left) (bs : Branches) (rest : List Goal) (cs : List Clause) → IsSplit form (condition_of form) (Some bs) → IsSplitTaken m e
        → rest ≡ stacked g.conditions (signed true bs.condition) bs.yes ∷ stacked g.conditions (signed false bs.condition) bs.no ∷ gs
        → IsTurn th b (g ∷ gs) cs e rest cs
    split_turn e bs rest cs h s r = record {
      more = [];
      found = sym (append-nil cs);
      reached = record { on = λ o k. subst (λ (x : Worked Clause). Work th b (g ∷ gs) x) (sym (before_none o)) (by o k) };
    }
      where
        q : Tree
        q = (split_by (condition_of form) bs h).0

        are : AreHalves form q bs
        are = (split_by (condition_of form) bs h).2

        some : 0 < b.splits
        some = subst (λ (x : Left). 0 < x.splits) f.left s.some

        to : e ≡ after_split (after_walk b f.walk)
        to = s.left ∙ ap after_split f.left

        is : rest ≡ child g f.walk.form q true ∷ child g f.walk.form q false ∷ gs
        is = r ∙ (λ i. stacked g.conditions (signed true (are.condition i)) ((are.met ∙ ap (replaced q true) f.same) i)
            ∷ stacked g.conditions (signed false (are.condition i)) ((are.unmet ∙ ap (replaced q false) f.same) i) ∷ gs)

        by : (o : Worked Clause) → Work th e rest o → Work th b (g ∷ gs) o
        by o k = at_split f.walk q formed (at_form (Some q) (split_by (condition_of form) bs h).1) some
            (subst (λ (x : Left). Work th x (child g f.walk.form q true ∷ child g f.walk.form q false ∷ gs) o) to
            (subst (λ (x : List Goal). Work th e x o) is k))

    pub split_fewer : (e : Left) (k l : ℕ) → IsSplitTaken m e → l ≡ k + 2 → 2 * e.splits + l < 2 * b.splits + k + 1
    split_fewer e k l s h =
        let x : m.splits ≡ b.splits = ap (λ (y : Left). y.splits) f.left in
        let z : e.splits ≡ m.splits - 1 = ap (λ (y : Left). y.splits) s.left in
        omega (arith, x, z, s.some, h)

    to_leaf : under g.conditions form ≡ leaf g f.walk
    to_leaf = ap (under g.conditions) f.same

    room : (v : Bool) → has_room m (under g.conditions form) ≡ v → has_room b (leaf g f.walk) ≡ v
    room v e = sym (λ i. has_room (f.left i) (to_leaf i)) ∙ e

    pub leaf_stop : (e : LimitErr) → IsSplit form (condition_of form) None → IsOverfull m (under g.conditions form) e → Stops (Work th b (g ∷ gs)) e
    leaf_stop Patterns h l = absurd l
    leaf_stop Splits h l = absurd l
    leaf_stop Steps h l = absurd l
    leaf_stop Clauses h l = without_clauses f.walk formed (at_form None (leaf_by (condition_of form) h)) (room false l) refl
    leaf_stop Memory h l = l

    pub leaf_turn : (e : Left) (cs ds : List Clause) → IsSplit form (condition_of form) None → IsLeafTaken m e (under g.conditions form) cs ds
        → IsTurn th b (g ∷ gs) cs e gs ds
    leaf_turn e cs ds h l = record {
      more = clauses_of (leaf g f.walk);
      found = l.found ∙ ap (λ t. cs ++ clauses_of t) to_leaf;
      reached = record {
        on = λ o k. at_leaf f.walk o formed (at_form None (leaf_by (condition_of form) h)) (room true l.room)
            (subst (λ (x : Left). Work th x gs o) (l.left ∙ (λ i. after_clauses (f.left i) (to_leaf i))) k) refl;
      };
    }

    pub leaf_fewer : (e : Left) (k : ℕ) (cs ds : List Clause) (t : Tree) → IsLeafTaken m e t cs ds → 2 * e.splits + k < 2 * b.splits + k + 1
    leaf_fewer e k cs ds t l =
        let x : m.splits ≡ b.splits = ap (λ (y : Left). y.splits) f.left in
        let z : e.splits ≡ m.splits = ap (λ (y : Left). y.splits) l.left in
        omega (arith, x, z)

pub ruleset works = (reached_itself, turned, reached_end, reached_stop)

pub ruleset turns = (formless, split_stop, split_turn, split_fewer, leaf_stop, leaf_turn, leaf_fewer)

pub ruleset forms = (before_none)
