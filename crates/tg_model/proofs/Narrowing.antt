-- A term that is typed outside all binders has no other type within them where it is a truth value.
use Rattle.std.proofs.Common.{zero, suc, ◌≡◌, Bool, List, [], ◌∷◌, ◌++◌, map, reverse, length, refl, sym, ◌∙◌, ap, subst, arith, append_assoc, length-append}
use Rattle.std.proofs.lemmas.List.{length-reverse}
use Rattle.std.proofs.lemmas.Option.{slice_get_within}
use Rattle.tg_model.specs.Tree as tree
use Rattle.tg_model.specs.Tree.{Tree, Trees, Arms, bound, free, literal, truth, con, call, put, choice, case, bind, op}
use Rattle.tg_model.specs.Types.{Ty, nat, bool, parameter, meta, applied, tys}
use Rattle.tg_model.specs.Value.{Value, boolean}
use Rattle.tg_model.specs.Theory.{Theory, instance, AreClosed}
use Rattle.tg_model.specs.Typing.{HasType, AreTyped, least}
use Rattle.tg_model.specs.Denotation.{den}
use Rattle.tg_model.specs.TermTyping.{Typing, Typings, ArmTypings, leaf, instanced, compound, branching, binding, none, more, end, arm, constructor_arguments, IsTyping, AreTypings, AreArmTypings}
use Rattle.tg_model.specs.WellTyped.{IsWellTyped}
use Rattle.tg_model.specs.TypeLaws.{TruthHasOneType}
use Rattle.tg_model.proofs.Places.{get_left}
use Rattle.tg_model.proofs.ValueTyping.{is_boolean}
use Rattle.tg_model.proofs.Inhabited.{least_has_type, list_closed_instance}
use Rattle.tg_model.proofs.CallSoundness.{soundness_at_instances}

-- what is typed within some binders alone has, within more, typings in which the further binders have no part
module _ (th : Theory) (vars outer : List Ty) where
  mutual
    narrowed : (t : Tree) (d e : Typing) (locs locs' : List Ty) → length locs ≡ length locs' → IsTyping th vars locs t d
        → IsTyping th vars (locs' ++ outer) t e → IsTyping th vars locs' t e
    narrowed (bound k) (leaf a) (leaf b) locs locs' n h p = sym (get_left locs' outer k (omega (arith, n, slice_get_within locs k a h))) ∙ p
    narrowed (bound k) (leaf a) e locs locs' n h p = absurd p
    narrowed (free m) (leaf a) (leaf b) locs locs' n h p = p
    narrowed (free m) (leaf a) e locs locs' n h p = absurd p
    narrowed (literal m) (leaf a) (leaf b) locs locs' n h p = p
    narrowed (literal m) (leaf a) e locs locs' n h p = absurd p
    narrowed (truth b) (leaf a) (leaf c) locs locs' n h p = p
    narrowed (truth b) (leaf a) e locs locs' n h p = absurd p
    narrowed (con c ts) (instanced us a ds) (instanced vs b es) locs locs' n (o, is, q, r, args, each) (o', is', q', r', args', each') =
        (o', is', q', r', args', all_narrowed ts ds es locs locs' n each each')
    narrowed (con c ts) (instanced us a ds) e locs locs' n h p = absurd p
    narrowed (call f ts) (instanced us a ds) (instanced vs b es) locs locs' n (x, is, q, r, args, each) (x', is', q', r', args', each') =
        (x', is', q', r', args', all_narrowed ts ds es locs locs' n each each')
    narrowed (call f ts) (instanced us a ds) e locs locs' n h p = absurd p
    narrowed (put ts) (compound a ds) (compound b es) locs locs' n (q, args, each) (q', args', each') = (q', args', all_narrowed ts ds es locs locs' n each each')
    narrowed (put ts) (compound a ds) e locs locs' n h p = absurd p
    narrowed (choice ts) (compound a ds) (compound b es) locs locs' n (args, each) (args', each') = (args', all_narrowed ts ds es locs locs' n each each')
    narrowed (choice ts) (compound a ds) e locs locs' n h p = absurd p
    narrowed (op o ts) (compound a ds) (compound b es) locs locs' n (is, each) (is', each') = (is', all_narrowed ts ds es locs locs' n each each')
    narrowed (op o ts) (compound a ds) e locs locs' n h p = absurd p
    narrowed (bind t body) (binding u a d d') (binding v b e e') locs locs' n (p, q, r, s) (p', q', r', s') =
        (narrowed t d e locs locs' n p p', q', narrowed body d' e' (u ∷ locs) (v ∷ locs') (ap suc n) r r', s')
    narrowed (bind t body) (binding u a d d') e locs locs' n h p = absurd p
    narrowed (case m t bs) (branching us a d arms) (branching vs b e others) locs locs' n (is, q, p, each) (is', q', p', each') = (
      is',
      q',
      narrowed t d e locs locs' n p p',
      arms_narrowed bs (constructor_arguments th m us) (constructor_arguments th m vs) arms others a b locs locs' n each each',
    )
    narrowed (case m t bs) (branching us a d arms) e locs locs' n h p = absurd p
    narrowed t d e locs locs' n h p = absurd h

    all_narrowed : (ts : Trees) (ds es : Typings) (locs locs' : List Ty) → length locs ≡ length locs' → AreTypings th vars locs ts ds
        → AreTypings th vars (locs' ++ outer) ts es → AreTypings th vars locs' ts es
    all_narrowed tree.none ds none locs locs' n h p = tt
    all_narrowed tree.none ds (more e es) locs locs' n h p = absurd p
    all_narrowed (tree.more t ts) none es locs locs' n h p = absurd h
    all_narrowed (tree.more t ts) (more d ds) none locs locs' n h p = absurd p
    all_narrowed (tree.more t ts) (more d ds) (more e es) locs locs' n h p =
        (narrowed t d e locs locs' n h.0 p.0, all_narrowed ts ds es locs locs' n h.1 p.1)

    arms_narrowed : (bs : Arms) (args args' : List (List Ty)) (arms others : ArmTypings) (u v : Ty) (locs locs' : List Ty) → length locs ≡ length locs'
        → AreArmTypings th vars locs u bs args arms → AreArmTypings th vars (locs' ++ outer) v bs args' others → AreArmTypings th vars locs' v bs args' others
    arms_narrowed tree.end args [] arms end u v locs locs' n h p = tt
    arms_narrowed tree.end args [] arms (arm ts e es) u v locs locs' n h p = absurd p
    arms_narrowed tree.end args (ts ∷ rest) arms others u v locs locs' n h p = absurd p
    arms_narrowed (tree.arm m body bs) (ts ∷ rest) (us ∷ rest') (arm ts' d arms) (arm us' e others) u v locs locs' n (count, q, r, s, more_arms) (count', q', r', s', more_others) =
        let same : length (reverse ts ++ locs) ≡ length (reverse us ++ locs') =
        let a = length-append (reverse ts) locs in let b = length-append (reverse us) locs' in
        let c = length-reverse ts in let f = length-reverse us in omega (arith, a, b, c, f, count, count', n) in (
          count',
          q',
          narrowed body d e (reverse ts ++ locs) (reverse us ++ locs') same r
              (subst (λ (l : List Ty). IsTyping th vars l body e) (sym (append_assoc (reverse us) locs' outer)) r'),
          s',
          arms_narrowed bs rest rest' arms others u v locs locs' n more_arms more_others,
        )
    arms_narrowed (tree.arm m body bs) (ts ∷ rest) (us ∷ rest') (arm ts' d arms) end u v locs locs' n h p = absurd p
    arms_narrowed (tree.arm m body bs) (ts ∷ rest) [] (arm ts' d arms) others u v locs locs' n h p = absurd p
    arms_narrowed (tree.arm m body bs) args args' arms others u v locs locs' n h p = absurd h

-- a type whose instance without types for parameters is bool
bool_alone : (u : Ty) → instance [] u ≡ bool → u ≡ bool
bool_alone nat e = e
bool_alone bool e = refl
bool_alone (parameter zero) e = let f : nat ≡ bool = e in cc
bool_alone (parameter (suc n)) e = let f : nat ≡ bool = e in cc
bool_alone (meta n) e = cc
bool_alone (applied d ts) e = cc

boolean_type : (th : Theory) (b : Bool) (v : Value) (u : Ty) → v ≡ boolean b → HasType th v u → u ≡ bool
boolean_type th b v u e h = subst (λ (w : Value). HasType th w u) e h

least_typed : (th : Theory) → IsWellTyped th → (vars : List Ty) → AreClosed th (tys vars) → AreTyped th (map (least th) vars) vars
least_typed th wt [] h = tt
least_typed th wt (t ∷ ts) h = (least_has_type th wt t h.0, least_typed th wt ts h.1)

pub truth_has_one_type : TruthHasOneType
truth_has_one_type th wt vars locs t u closed (d, h, e) (g, k, f) =
    let env = map (least th) vars in
    let typed : AreTyped th env (map (instance []) vars) =
    subst (λ (ts : List Ty). AreTyped th env ts) (sym (list_closed_instance th [] vars closed)) (least_typed th wt vars closed) in
    let inside : IsTyping th vars [] t g = narrowed th vars locs t d g [] [] refl h k in
    let value = is_boolean th (den th [] env [] t) (soundness_at_instances th [] wt tt [] vars [] env [] t bool typed tt (d, h, e)) in
    bool_alone u (boolean_type th value.0 (den th [] env [] t) (instance [] u) value.1
    (soundness_at_instances th [] wt tt [] vars [] env [] t u typed tt (g, inside, f)))
