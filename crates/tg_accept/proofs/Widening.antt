-- Later declarations keep typings: constructors and functions keep their numbers.
use Rattle.std.proofs.Common.{ℕ, zero, suc, ◌≡◌, Bool, true, List, [], ◌∷◌, ◌++◌, map, reverse, Option, Some, None, refl, sym, ◌∙◌, ap, append_assoc}
use Rattle.std.specs.Prelude.{slice_get, option_map}
use Rattle.std.proofs.lemmas.Option.{slice_get_within}
use Rattle.tg_model.specs.Types.{Ty}
use Rattle.tg_model.specs.Theory.{Theory, Datatype, Constructor, Function, Owned, constructors_from, constructor_at, numbered, instance}
use Rattle.tg_model.specs.TermTyping.{Typing, Typings, ArmTypings, leaf, instanced, compound, branching, binding, none, more, end, arm, IsDatatype}
use Rattle.tg_model.proofs.Places.{get_left}
use Rattle.tg_model.proofs.Booleans.{or_left, or_right}
use Rattle.tg_accept.specs.Resolved as resolved
use Rattle.tg_accept.specs.Resolved.{Head, zero_head, successor_head, of, Resolved, Resolveds, Branches, bound, free, literal, truth, con, call, own, misused, put, choice, case, bind, op, branch, calls_program, call_program, branches_call_program}
use Rattle.tg_accept.specs.ResolvedTyping.{head_at, IsTypingOf, AreTypingsOf, AreBranchTypings}
use Rattle.tg_accept.specs.Laws.{Widens, TypingsWiden}

pub front : {A : Type 0} (xs ys : List A) (k : ℕ) (x : A) → slice_get xs k ≡ Some x → slice_get (xs ++ ys) k ≡ Some x
front xs ys k x e = get_left xs ys k (slice_get_within xs k x e) ∙ e

pub front_numbered : {A : Type 0} (xs ys : List A) (n : ℕ) (x : A) → numbered xs n ≡ Some x → numbered (xs ++ ys) n ≡ Some x
front_numbered xs ys zero x e = cc e
front_numbered xs ys (suc n) x e = front xs ys n x e

pub constructors_append : (d : ℕ) (xs ys : List Datatype) → (rest : List Owned) × (constructors_from d (xs ++ ys) ≡ constructors_from d xs ++ rest)
constructors_append d [] ys = (constructors_from d ys, refl)
constructors_append d (x ∷ xs) ys =
    let p = constructors_append (suc d) xs ys in
    let here = map (λ (c : Constructor). let o : Owned = record { datatype = d; constructor = c } in o) x.constructors in
    (p.0, ap (λ l. here ++ l) p.1 ∙ sym (append_assoc here (constructors_from (suc d) xs) p.0))

module _ (th wide : Theory) (w : Widens th wide) where
  pub same_constructor : (c : ℕ) (o : Owned) → constructor_at th c ≡ Some o → constructor_at wide c ≡ Some o
  same_constructor c o e =
      let p = constructors_append 1 th.datatypes w.more_datatypes in
      ap (λ l. numbered l c) (ap (constructors_from 1) w.datatypes ∙ p.1) ∙ front_numbered (constructors_from 1 th.datatypes) p.0 c o e

  pub same_function : (f : ℕ) (x : Function) → numbered th.functions f ≡ Some x → numbered wide.functions f ≡ Some x
  same_function f x e = ap (λ l. numbered l f) w.functions ∙ front_numbered th.functions w.more_functions f x e

  pub same_datatype : (n : ℕ) (us : List Ty) → IsDatatype th n us → IsDatatype wide n us
  same_datatype zero us h = h
  same_datatype (suc d) us (x, is, count) = (x, ap (λ l. slice_get l d) w.datatypes ∙ front th.datatypes w.more_datatypes d x is, count)

  of_constructor : (us : List Ty) (o : Option Owned) (o' : Option Owned) (p : ℕ × List Ty) → ((x : Owned) → o ≡ Some x → o' ≡ Some x)
      → option_map (λ (x : Owned). (x.datatype, map (instance us) x.constructor.arguments)) o ≡ Some p
      → option_map (λ (x : Owned). (x.datatype, map (instance us) x.constructor.arguments)) o' ≡ Some p
  of_constructor us None o' p same e = cc e
  of_constructor us (Some x) o' p same e = ap (option_map (λ (x : Owned). (x.datatype, map (instance us) x.constructor.arguments))) (same x refl) ∙ e

  same_head_at : (us : List Ty) (h : Head) (p : ℕ × List Ty) → head_at th us h ≡ Some p → head_at wide us h ≡ Some p
  same_head_at us zero_head p e = e
  same_head_at us successor_head p e = e
  same_head_at us (of c) p e = of_constructor us (constructor_at th c) (constructor_at wide c) p (same_constructor c) e

  module _ (self : Option Function) (ps vars : List Ty) where
    abbrev Program : Bool → Type 0
    Program b = b ≡ true → wide.program ≡ th.program

    mutual
      widened : (t : Resolved) (d : Typing) (locs : List Ty) → Program (calls_program t) → IsTypingOf th self ps vars locs t d
          → IsTypingOf wide self ps vars locs t d
      widened (bound k) (leaf t) locs p h = h
      widened (free n) (leaf t) locs p h = h
      widened (literal n) (leaf t) locs p h = h
      widened (truth b) (leaf t) locs p h = h
      widened (con c ts) (instanced us t ds) locs p (o, is, n, q, args, each) =
          (o, same_constructor c o is, same_datatype o.datatype us n, q, args, all_widened ts ds locs p each)
      widened (call f ts) (instanced us t ds) locs p (x, is, n, q, args, each) = (x, same_function f x is, n, q, args, all_widened ts ds locs p each)
      widened (own ts) (instanced us t ds) locs p (x, is, n, q, args, each) = (x, is, n, q, args, all_widened ts ds locs p each)
      widened (put ts) (compound t ds) locs p (q, args, each) =
          let same : wide.program ≡ th.program = p refl in
          (q ∙ ap (λ g. g.answer) (sym same), args ∙ ap (λ g. g.inputs) (sym same), all_widened ts ds locs (λ e. same) each)
      widened (choice ts) (compound t ds) locs p (args, each) = (args, all_widened ts ds locs p each)
      widened (op o ts) (compound t ds) locs p (is, each) = (is, all_widened ts ds locs p each)
      widened (bind t body) (binding u v d e) locs p (h, q, b, s) = (
        widened t d locs (λ x. p (or_left (calls_program t) (calls_program body) x)) h,
        q,
        widened body e (u ∷ locs) (λ x. p (or_right (calls_program t) (calls_program body) x)) b,
        s,
      )
      widened (case n t bs) (branching us u d ds) locs p (is, e, h, each) = (
        same_datatype n us is,
        e,
        widened t d locs (λ x. p (or_left (calls_program t) (branches_call_program bs) x)) h,
        branches_widened bs ds n us u locs (λ x. p (or_right (calls_program t) (branches_call_program bs) x)) each,
      )
      widened t d locs p h = absurd h

      all_widened : (ts : Resolveds) (ds : Typings) (locs : List Ty) → Program (call_program ts) → AreTypingsOf th self ps vars locs ts ds
          → AreTypingsOf wide self ps vars locs ts ds
      all_widened resolved.none none locs p h = tt
      all_widened resolved.none (more d ds) locs p h = absurd h
      all_widened (resolved.more t ts) none locs p h = absurd h
      all_widened (resolved.more t ts) (more d ds) locs p h = (
        widened t d locs (λ x. p (or_left (calls_program t) (call_program ts) x)) h.0,
        all_widened ts ds locs (λ x. p (or_right (calls_program t) (call_program ts) x)) h.1,
      )

      branches_widened : (bs : Branches) (ds : ArmTypings) (n : ℕ) (us : List Ty) (u : Ty) (locs : List Ty) → Program (branches_call_program bs)
          → AreBranchTypings th self ps vars locs n us u bs ds → AreBranchTypings wide self ps vars locs n us u bs ds
      branches_widened resolved.end end n us u locs p h = tt
      branches_widened (branch head xs body bs) (arm ts d ds) n us u locs p (at, long, h, q, others) = (
        same_head_at us head (n, ts) at,
        long,
        widened body d (reverse ts ++ locs) (λ x. p (or_left (calls_program body) (branches_call_program bs) x)) h,
        q,
        branches_widened bs ds n us u locs (λ x. p (or_right (calls_program body) (branches_call_program bs) x)) others,
      )
      branches_widened bs ds n us u locs p h = absurd h

pub typings_widen : TypingsWiden
typings_widen th wide w self ps vars locs t d p h = widened th wide w self ps vars t d locs p h
