-- The frames of the kinds of uses.
use Rattle.std.proofs.Common.{ℕ, zero, suc, ◌≡◌, ◌<◌, Bool as Truth, true, false, List, [], ◌∷◌, ◌++◌, length, if◌then◌else◌, refl, sym, ◌∙◌, ap, subst, arith}
use Rattle.std.specs.Prelude.{map, Option, Some, None, slice_get, option_map, Result, Ok, Err, IfOk}
use Rattle.tg_model.specs.Tree.{Operator, successor, negation, conjunction, disjunction, implication, equality, less, less_equal, plus, minus, times, divide, modulo, unnamed}
use Rattle.tg_model.specs.Types as model
use Rattle.tg_model.specs.Types.{Ty, nat, bool, applied, tys, elements}
use Rattle.tg_model.specs.Theory.{Theory, Datatype, Function, Program, Owned, constructor_at, numbered, instance, instances}
use Rattle.tg_model.specs.TermTyping.{IsDatatype}
use Rattle.tg_types.specs.declared.types.Ty as declared
use Rattle.tg_types.specs.Types.{ty, types}
use Rattle.tg_types.specs.Substitutions.{Assignment}
use Rattle.tg_shared_types.specs.declared.nodes.Node.{Node}
use Rattle.tg_shared_types.specs.declared.nodes.Node.TheVariants.{Open, Bool, App}
use Rattle.tg_shared_types.specs.Nodes.{types_of, Fits, AreBelow, IsNodeTable}
use Rattle.tg_shared_types.specs.Growth.{Grows, Plants, PlantsAll}
use Rattle.tg_shared_types.proofs.NodeLaws.{pushed_length}
use Rattle.tg_shared_types.proofs.GrowthLaws.{grows_then, grows_pushed, pushed_says, pushed_older}
use Rattle.tg_typing.specs.Growing.{Grown}
use Rattle.tg_typing.specs.Nodes.{AreOpened, Stands, AllStand}
use Rattle.tg_typing.specs.Uses.{Use, Frames, UsesConstructor, UsesFunction, UsesOwn, UsesProgram, UsesChoice, UsesOperator}
use Rattle.tg_typing.specs.Frames.{Closes, Ends, parameters_of}
use Rattle.tg_typing.specs.Operators.{kind_type, shape_of, operand_types, FixedUse}
use Rattle.tg_typing.specs.declared.operators.Fixed.{Fixed}
use Rattle.tg_typing.specs.declared.operators.Shape.TheVariants as shapes
use Rattle.tg_typing.proofs.Turns.{same_types, agree_itself}
use Rattle.tg_typing.proofs.Opened.{none_opened, opened_next}
use Rattle.tg_typing.proofs.Scoped.{below_more}
use Rattle.tg_typing.proofs.Frames.{AreUses, ends_framed}

pub same_use : {u v : Use} → u.at ≡ v.at → u.arguments ≡ v.arguments → u.answer ≡ v.answer → u ≡ v
same_use a b c = λ i. record { at = a i; arguments = b i; answer = c i }

-- lists of types, in the two forms
pub listed : (ρ : Assignment) (ks : List ℕ) → types_of ρ ks ≡ tys (map ρ ks)
listed ρ [] = refl
listed ρ (k ∷ ks) = ap (model.more (ρ k)) (listed ρ ks)

pub elements_of : (ρ : Assignment) (ks : List ℕ) → elements (types_of ρ ks) ≡ map ρ ks
elements_of ρ [] = refl
elements_of ρ (k ∷ ks) = ap (λ ts. ρ k ∷ ts) (elements_of ρ ks)

pub elements_tys : (ts : List Ty) → elements (tys ts) ≡ ts
elements_tys [] = refl
elements_tys (t ∷ ts) = ap (λ us. t ∷ us) (elements_tys ts)

instances_of : (us ts : List Ty) → elements (instances us (tys ts)) ≡ map (instance us) ts
instances_of us [] = refl
instances_of us (t ∷ ts) = ap (λ vs. instance us t ∷ vs) (instances_of us ts)

pub planted_types : (ρ : Assignment) (old new : List Node) (us es : List ℕ) (ts : List declared.Ty) → PlantsAll old us (types ts) new es → Fits ρ new →
    map ρ es ≡ map (instance (map ρ us)) (map ty ts)
planted_types ρ old new us es ts p f =
    sym (elements_of ρ es) ∙ ap elements (p.reads ρ f) ∙ ap (λ vs. elements (instances vs (types ts))) (elements_of ρ us)
    ∙ instances_of (map ρ us) (map ty ts)

pub standing_types : (ρ : Assignment) (old new : List Node) (es : List ℕ) (ts : List declared.Ty) → AllStand old (types ts) new es → Fits ρ new →
    map ρ es ≡ map ty ts
standing_types ρ old new es ts p f = sym (elements_of ρ es) ∙ ap elements (p.reads ρ f) ∙ elements_tys (map ty ts)

-- nodes that are there already
pub given : (ns : List Node) (ks : List ℕ) → AreBelow (length ns) ks → Grown ns ns (List Ty) (λ ρ. map ρ ks) (λ ρ ts. ts ≡ map ρ ks)
given ns ks b = record {
  longer = omega arith;
  older = λ ρ f. f;
  sound = λ ρ f. refl;
  complete = λ ρ ts f w. record { types = ρ; fits = f; same = agree_itself; reads = sym w };
  determined = λ ρ φ f g a r. a;
  local = λ ρ φ a. same_types ks b a;
}

-- constructors
pub to_datatype : (th : Theory) (d k : ℕ) (ts : List Ty) → parameters_of th.datatypes d ≡ Some k → length ts ≡ k → IsDatatype th d ts
to_datatype th zero k ts e l = empty ts (l ∙ (let f : k ≡ 0 = cc e in f)) where
  empty : (ts : List Ty) → length ts ≡ 0 → ts ≡ []
  empty [] e = refl
  empty (t ∷ ts) e = cc e
to_datatype th (suc d) k ts e l = found (slice_get th.datatypes d) refl e where
  found : (o : Option Datatype) → slice_get th.datatypes d ≡ o → option_map (λ (x : Datatype). x.parameters) o ≡ Some k → IsDatatype th (suc d) ts
  found None h e = cc e
  found (Some x) h e = (x, h, l ∙ sym (let f : x.parameters ≡ k = cc e in f))

pub from_datatype : (th : Theory) (d k : ℕ) (ts : List Ty) → parameters_of th.datatypes d ≡ Some k → IsDatatype th d ts → length ts ≡ k
from_datatype th zero k ts e l = ap length l ∙ (let f : 0 ≡ k = cc e in f)
from_datatype th (suc d) k ts e (x, is, l) =
    let f : Some x.parameters ≡ Some k = sym (ap (option_map (λ (x : Datatype). x.parameters)) is) ∙ e in
    l ∙ (let g : x.parameters ≡ k = cc f in g)

pub no_datatype_of : (th : Theory) (d : ℕ) (ts : List Ty) → parameters_of th.datatypes d ≡ None → IsDatatype th d ts → ⊥
no_datatype_of th zero ts e w = cc e
no_datatype_of th (suc d) ts e (x, is, l) = let f : Some x.parameters ≡ None = sym (ap (option_map (λ (x : Datatype). x.parameters)) is) ∙ e in cc f

con_uses : (th : Theory) (c k : ℕ) (o : Owned) → constructor_at th c ≡ Some o → parameters_of th.datatypes o.datatype ≡ Some k →
    AreUses (λ ρ ts. length ts ≡ k) (λ ρ. UsesConstructor th c)
    (λ ts. record { at = ts; arguments = map (instance ts) o.constructor.arguments; answer = applied o.datatype (tys ts) })
con_uses th c k o is params = record {
  there = λ ρ ts l. (o, is, to_datatype th o.datatype k ts params l, refl, refl);
  back = λ ρ u w.
      let p : w.0 ≡ o = (let q : Some w.0 ≡ Some o = sym w.1 ∙ is in cc q) in (
        u.at,
        from_datatype th o.datatype k u.at params (subst (λ (x : Owned). IsDatatype th x.datatype u.at) p w.2),
        same_use refl (ap (λ (x : Owned). map (instance u.at) x.constructor.arguments) (sym p) ∙ sym w.4)
            (ap (λ (x : Owned). applied x.datatype (tys u.at)) (sym p) ∙ sym w.3),
      );
  apart = λ ρ φ a b p q r. ap (λ (u : Use). u.at) r;
}

pub con_framed : (th : Theory) (old start mid late new : List Node) (us es : List ℕ) (k c e top : ℕ) (o : Owned) (args : List declared.Ty)
    (found : Option (List ℕ)) → constructor_at th c ≡ Some o → o.constructor.arguments ≡ map ty args → parameters_of th.datatypes o.datatype ≡ Some k →
    AreOpened old start us k → PlantsAll start us (types args) mid es → IsNodeTable mid → late ≡ mid ++ App o.datatype us ∷ [] → top ≡ length mid →
    e < length old → Closes late new top e es found → Frames old new (λ ρ. UsesConstructor th c) e found
con_framed th old start mid late new us es k c e top o args found is same params opens plants table pushed place h closes =
    ends_framed old start new us (λ ρ ts. length ts ≡ k) (λ ρ. UsesConstructor th c) (λ ts. ts) (λ ts. map (instance ts) o.constructor.arguments)
    (λ ts. applied o.datatype (tys ts)) e found opens.1 (con_uses th c k o is params) h (record {
      mid = mid ++ App o.datatype us ∷ [];
      es = es;
      top = length mid;
      grows = grows_then plants.grows (grows_pushed mid (App o.datatype us) table names (λ o. cc));
      inside = omega (arith, pushed_length mid (App o.datatype us));
      below = below_more (length mid) (length (mid ++ App o.datatype us ∷ [])) es (omega (arith, pushed_length mid (App o.datatype us))) plants.inside;
      answers = λ ρ f. pushed_says mid (App o.datatype us) table names ρ f ∙ ap (applied o.datatype) (listed ρ us);
      takes = λ ρ f.
          planted_types ρ start mid us es args plants (pushed_older mid (App o.datatype us) table names ρ f)
          ∙ ap (map (instance (map ρ us))) (sym same);
      closes = subst (λ x. Closes (mid ++ App o.datatype us ∷ []) new x e es found) place (subst (λ x. Closes x new top e es found) pushed closes);
    })
  where
    names : AreBelow (length mid) us
    names = below_more (length start) (length mid) us plants.grows.longer opens.0

-- functions
pub signature_ends : (old mid late new : List Node) (us es : List ℕ) (e top : ℕ) (args : List declared.Ty) (t : declared.Ty) (found : Option (List ℕ)) →
    PlantsAll old us (types args) mid es → Plants mid us (ty t) late top → Closes late new top e es found →
    Ends old new us (λ ts. map (instance ts) (map ty args)) (λ ts. instance ts (ty t)) e found
signature_ends old mid late new us es e top args t found p q closes = record {
  mid = late;
  es = es;
  top = top;
  grows = grows_then p.grows q.grows;
  inside = q.inside;
  below = below_more (length mid) (length late) es q.grows.longer p.inside;
  answers = λ ρ f. q.reads ρ f ∙ ap (λ vs. instance vs (ty t)) (elements_of ρ us);
  takes = λ ρ f. planted_types ρ old mid us es args p (q.grows.older ρ f);
  closes = closes;
}

pub function_framed : (th : Theory) (old start new : List Node) (us : List ℕ) (f e : ℕ) (x : Function) (found : Option (List ℕ)) →
    numbered th.functions f ≡ Some x → AreOpened old start us x.parameters → e < length old →
    Ends start new us (λ ts. map (instance ts) x.arguments) (λ ts. instance ts x.answer) e found → Frames old new (λ ρ. UsesFunction th f) e found
function_framed th old start new us f e x found is opens h ends =
    ends_framed old start new us (λ ρ ts. length ts ≡ x.parameters) (λ ρ. UsesFunction th f) (λ ts. ts) (λ ts. map (instance ts) x.arguments)
    (λ ts. instance ts x.answer) e found opens.1 uses h ends
  where
    uses : AreUses (λ ρ ts. length ts ≡ x.parameters) (λ ρ. UsesFunction th f)
        (λ ts. record { at = ts; arguments = map (instance ts) x.arguments; answer = instance ts x.answer })
    uses = record {
      there = λ ρ ts l. (x, is, l, refl, refl);
      back = λ ρ u w.
          let p : w.0 ≡ x = (let q : Some w.0 ≡ Some x = sym w.1 ∙ is in cc q) in (
            u.at,
            w.2 ∙ ap (λ (y : Function). y.parameters) p,
            same_use refl (ap (λ (y : Function). map (instance u.at) y.arguments) (sym p) ∙ sym w.4)
                (ap (λ (y : Function). instance u.at y.answer) (sym p) ∙ sym w.3),
          );
      apart = λ ρ φ a b p q r. ap (λ (u : Use). u.at) r;
    }

pub own_framed : (self : Option Function) (old new : List Node) (ks : List ℕ) (e : ℕ) (x : Function) (found : Option (List ℕ)) → self ≡ Some x →
    AreBelow (length old) ks → e < length old →
    Ends old new ks (λ ts. map (instance ts) x.arguments) (λ ts. instance ts x.answer) e found → Frames old new (λ ρ. UsesOwn self (map ρ ks)) e found
own_framed self old new ks e x found is below h ends =
    ends_framed old old new ks (λ ρ ts. ts ≡ map ρ ks) (λ ρ. UsesOwn self (map ρ ks)) (λ ts. ts) (λ ts. map (instance ts) x.arguments)
    (λ ts. instance ts x.answer) e found (given old ks below) uses h ends
  where
    uses : AreUses (λ ρ ts. ts ≡ map ρ ks) (λ ρ. UsesOwn self (map ρ ks))
        (λ ts. record { at = ts; arguments = map (instance ts) x.arguments; answer = instance ts x.answer })
    uses = record {
      there = λ ρ ts l. (x, is, l, refl, refl);
      back = λ ρ u w.
          let p : w.0 ≡ x = (let q : Some w.0 ≡ Some x = sym w.1 ∙ is in cc q) in (
            u.at,
            w.2,
            same_use refl (ap (λ (y : Function). map (instance u.at) y.arguments) (sym p) ∙ sym w.4)
                (ap (λ (y : Function). instance u.at y.answer) (sym p) ∙ sym w.3),
          );
      apart = λ ρ φ a b p q r. ap (λ (u : Use). u.at) r;
    }

-- types as they stand
pub stands_ends : (old mid late new : List Node) (es : List ℕ) (e top : ℕ) (inputs : List Ty) (answer : Ty) (found : Option (List ℕ)) →
    AllStand old (tys inputs) mid es → Stands mid answer late top → Closes late new top e es found →
    Ends old new [] (λ ts. inputs) (λ ts. answer) e found
stands_ends old mid late new es e top inputs answer found p q closes = record {
  mid = late;
  es = es;
  top = top;
  grows = grows_then p.grows q.grows;
  inside = q.inside;
  below = below_more (length mid) (length late) es q.grows.longer p.inside;
  answers = λ ρ f. q.reads ρ f;
  takes = λ ρ f. sym (elements_of ρ es) ∙ ap elements (p.reads ρ (q.grows.older ρ f)) ∙ elements_tys inputs;
  closes = closes;
}

pub program_framed : (th : Theory) (old new : List Node) (e : ℕ) (g : Program) (found : Option (List ℕ)) → th.program ≡ g → e < length old →
    Ends old new [] (λ ts. g.inputs) (λ ts. g.answer) e found → Frames old new (λ ρ. UsesProgram th) e found
program_framed th old new e g found is h ends =
    ends_framed old old new [] (λ ρ ts. ts ≡ []) (λ ρ. UsesProgram th) (λ ts. ts) (λ ts. g.inputs) (λ ts. g.answer) e found (given old [] tt) uses h ends
  where
    uses : AreUses (λ ρ ts. ts ≡ []) (λ ρ. UsesProgram th) (λ ts. record { at = ts; arguments = g.inputs; answer = g.answer })
    uses = record {
      there = λ ρ ts l. (l, ap (λ (x : Program). x.answer) (sym is), ap (λ (x : Program). x.inputs) (sym is));
      back = λ ρ u w. (u.at, w.0, same_use refl (ap (λ (x : Program). x.inputs) (sym is) ∙ sym w.2) (ap (λ (x : Program). x.answer) (sym is) ∙ sym w.1));
      apart = λ ρ φ a b p q r. ap (λ (u : Use). u.at) r;
    }

-- one open node
head : List Ty → Ty
head [] = nat
head (t ∷ ts) = t

one_opened : (old : List Node) → IsNodeTable old → AreOpened old (old ++ Open ∷ []) (length old ∷ []) 1
one_opened old table = opened_next old old [] 0 table (none_opened old)

one_type : (ts : List Ty) → length ts ≡ 1 → ts ≡ head ts ∷ []
unfolding head
one_type [] l = cc l
one_type (t ∷ []) l = refl
one_type (t ∷ u ∷ ts) l = cc l

same_head : (ts us : List Ty) → length ts ≡ 1 → length us ≡ 1 → head ts ≡ head us → ts ≡ us
same_head ts us l m e = one_type ts l ∙ ap (λ t. t ∷ []) e ∙ sym (one_type us m)

pub choice_framed : (old mid late new : List Node) (es : List ℕ) (e side condition : ℕ) (found : Option (List ℕ)) → IsNodeTable old → mid ≡ old ++ Open ∷ [] →
    side ≡ length old → IsNodeTable mid → late ≡ mid ++ Bool ∷ [] → condition ≡ length mid → es ≡ condition ∷ side ∷ side ∷ [] → e < length old →
    Closes late new side e es found → Frames old new (λ ρ. UsesChoice) e found
unfolding head
choice_framed old mid late new es e side condition found table opened at other pushed place is h closes =
    ends_framed old mid new (side ∷ []) (λ ρ ts. length ts ≡ 1) (λ ρ. UsesChoice) (λ ts. []) (λ ts. bool ∷ head ts ∷ head ts ∷ []) head e found opens.1
    uses h (record {
      mid = late;
      es = es;
      top = side;
      grows = g;
      inside = omega (arith, at, l, m);
      below = subst (AreBelow (length late)) (sym is) (omega (arith, place, m), (omega (arith, at, l, m), (omega (arith, at, l, m), tt)));
      answers = λ ρ f. refl;
      takes = λ ρ f.
          ap (map ρ) is ∙ ap (λ t. t ∷ ρ side ∷ ρ side ∷ [])
          (ap ρ place ∙ pushed_says mid Bool other tt ρ (subst (Fits ρ) pushed f));
      closes = closes;
    })
  where
    l : length mid ≡ suc (length old)
    l = ap length opened ∙ pushed_length old Open

    m : length late ≡ suc (length mid)
    m = ap length pushed ∙ pushed_length mid Bool

    g : Grows mid late
    g = subst (Grows mid) (sym pushed) (grows_pushed mid Bool other tt (λ o. cc))

    opens : AreOpened old mid (side ∷ []) 1
    opens = subst (λ x. AreOpened old x (side ∷ []) 1) (sym opened) (subst (λ x. AreOpened old (old ++ Open ∷ []) (x ∷ []) 1) (sym at) (one_opened old table))

    uses : AreUses (λ ρ ts. length ts ≡ 1) (λ ρ. UsesChoice) (λ ts. record { at = []; arguments = bool ∷ head ts ∷ head ts ∷ []; answer = head ts })
    uses = record {
      there = λ ρ ts p. (refl, refl);
      back = λ ρ u w. (u.answer ∷ [], refl, same_use (sym w.0) (sym w.1) refl);
      apart = λ ρ φ a b p q r. same_head a b p q (ap (λ (u : Use). u.answer) r);
    }

pub equality_framed : (old mid late new : List Node) (es : List ℕ) (e side top : ℕ) (found : Option (List ℕ)) → IsNodeTable old → mid ≡ old ++ Open ∷ [] →
    side ≡ length old → IsNodeTable mid → late ≡ mid ++ Bool ∷ [] → top ≡ length mid → es ≡ side ∷ side ∷ [] → e < length old →
    Closes late new top e es found → Frames old new (λ ρ. UsesOperator equality) e found
unfolding head
equality_framed old mid late new es e side top found table opened at other pushed place is h closes =
    ends_framed old mid new (side ∷ []) (λ ρ ts. length ts ≡ 1) (λ ρ. UsesOperator equality) (λ ts. []) (λ ts. head ts ∷ head ts ∷ []) (λ ts. bool) e found opens.1
    uses h (record {
      mid = late;
      es = es;
      top = top;
      grows = g;
      inside = omega (arith, place, m);
      below = subst (AreBelow (length late)) (sym is) (omega (arith, at, l, m), (omega (arith, at, l, m), tt));
      answers = λ ρ f. ap ρ place ∙ pushed_says mid Bool other tt ρ (subst (Fits ρ) pushed f);
      takes = λ ρ f. ap (map ρ) is;
      closes = closes;
    })
  where
    l : length mid ≡ suc (length old)
    l = ap length opened ∙ pushed_length old Open

    m : length late ≡ suc (length mid)
    m = ap length pushed ∙ pushed_length mid Bool

    g : Grows mid late
    g = subst (Grows mid) (sym pushed) (grows_pushed mid Bool other tt (λ o. cc))

    opens : AreOpened old mid (side ∷ []) 1
    opens = subst (λ x. AreOpened old x (side ∷ []) 1) (sym opened) (subst (λ x. AreOpened old (old ++ Open ∷ []) (x ∷ []) 1) (sym at) (one_opened old table))

    uses : AreUses (λ ρ ts. length ts ≡ 1) (λ ρ. UsesOperator equality) (λ ts. record { at = []; arguments = head ts ∷ head ts ∷ []; answer = bool })
    uses = record {
      there = λ ρ ts p. (refl, ((head ts, refl), refl));
      back = λ ρ u w. (w.1.0.0 ∷ [], refl, same_use (sym w.0) (sym w.1.0.1) (sym w.1.1));
      apart = λ ρ φ a b p q r. same_head a b p q (let x : head a ∷ head a ∷ [] ≡ head b ∷ head b ∷ [] = ap (λ (u : Use). u.arguments) r in cc x);
    }

-- operators whose types are fixed
pub fixed_framed : (old mid late new : List Node) (es : List ℕ) (e operand top : ℕ) (x : Fixed) (found : Option (List ℕ)) →
    Stands old (kind_type x.operands) mid operand → Stands mid (kind_type x.answer) late top →
    es ≡ (if x.is_binary then operand ∷ operand ∷ [] else operand ∷ []) → e < length old → Closes late new top e es found →
    Frames old new (λ ρ. FixedUse x) e found
fixed_framed old mid late new es e operand top x found p q is h closes =
    ends_framed old old new [] (λ ρ ts. ts ≡ []) (λ ρ. FixedUse x) (λ ts. ts) (λ ts. operand_types x) (λ ts. kind_type x.answer) e found (given old [] tt) uses
    h (record {
      mid = late;
      es = es;
      top = top;
      grows = grows_then p.grows q.grows;
      inside = q.inside;
      below = subst (AreBelow (length late)) (sym is) (below x.is_binary (let a = q.grows.longer in let b = p.inside in omega arith));
      answers = λ ρ f. q.reads ρ f;
      takes = λ ρ f. ap (map ρ) is ∙ takes ρ x.is_binary (p.reads ρ (q.grows.older ρ f));
      closes = closes;
    })
  where
    below : (b : Truth) → operand < length late → AreBelow (length late) (if b then operand ∷ operand ∷ [] else operand ∷ [])
    below true i = (i, (i, tt))
    below false i = (i, tt)

    takes : (ρ : Assignment) (b : Truth) → ρ operand ≡ kind_type x.operands → map ρ (if b then operand ∷ operand ∷ [] else operand ∷ []) ≡
        (if b then kind_type x.operands ∷ kind_type x.operands ∷ [] else kind_type x.operands ∷ [])
    takes ρ true r = λ i. r i ∷ r i ∷ []
    takes ρ false r = λ i. r i ∷ []

    uses : AreUses (λ ρ ts. ts ≡ []) (λ ρ. FixedUse x) (λ ts. record { at = ts; arguments = operand_types x; answer = kind_type x.answer })
    uses = record {
      there = λ ρ ts l. (l, refl, refl);
      back = λ ρ u w. (u.at, w.0, same_use refl (sym w.1) (sym w.2));
      apart = λ ρ φ a b p q r. ap (λ (u : Use). u.at) r;
    }

-- the same uses
pub frames_same : (old new : List Node) (Uses Others : Assignment → Use → Type 0) (e : ℕ) (found : Option (List ℕ)) →
    ((ρ : Assignment) (u : Use) → Uses ρ u → Others ρ u) → ((ρ : Assignment) (u : Use) → Others ρ u → Uses ρ u) →
    Frames old new Uses e found → Frames old new Others e found
frames_same old new Uses Others e (Some es) there back frame = record {
  read = frame.read;
  grown = record {
    longer = frame.grown.longer;
    older = frame.grown.older;
    sound = λ ρ f. let w = frame.grown.sound ρ f in (there ρ (frame.read ρ) w.0, w.1);
    complete = λ ρ u f w. frame.grown.complete ρ u f (back ρ u w.0, w.1);
    determined = frame.grown.determined;
    local = frame.grown.local;
  };
  arguments = frame.arguments;
  inside = frame.inside;
}
frames_same old new Uses Others e None there back frame = λ ρ u f w. frame ρ u f (back ρ u w.0, w.1)

pub is_equality : (o : Operator) → shape_of o ≡ Some shapes.Equality → o ≡ equality
is_equality equality e = refl
is_equality o e = cc e

abbrev SameUses : Fixed → Operator → Type 0
SameUses x o = (u : Use) → (FixedUse x u → UsesOperator o u) × (UsesOperator o u → FixedUse x u)

over : (o : Operator) (x y : Fixed) → Some (shapes.Fixed x) ≡ Some (shapes.Fixed y) → SameUses x o → SameUses y o
over o x y e s = subst (λ z. SameUses z o) (let p : x ≡ y = cc e in p) s

pub fixed_uses : (o : Operator) (x : Fixed) → shape_of o ≡ Some (shapes.Fixed x) → SameUses x o
fixed_uses equality x e = cc e
fixed_uses (unnamed n) x e = cc e
fixed_uses successor x e = over successor _ x e (λ u. (λ h. (h.0, (h.1, h.2)), λ h. (h.0, h.1.0, h.1.1)))
fixed_uses negation x e = over negation _ x e (λ u. (λ h. (h.0, (h.1, h.2)), λ h. (h.0, h.1.0, h.1.1)))
fixed_uses conjunction x e = over conjunction _ x e (λ u. (λ h. (h.0, (h.1, h.2)), λ h. (h.0, h.1.0, h.1.1)))
fixed_uses disjunction x e = over disjunction _ x e (λ u. (λ h. (h.0, (h.1, h.2)), λ h. (h.0, h.1.0, h.1.1)))
fixed_uses implication x e = over implication _ x e (λ u. (λ h. (h.0, (h.1, h.2)), λ h. (h.0, h.1.0, h.1.1)))
fixed_uses less x e = over less _ x e (λ u. (λ h. (h.0, (h.1, h.2)), λ h. (h.0, h.1.0, h.1.1)))
fixed_uses less_equal x e = over less_equal _ x e (λ u. (λ h. (h.0, (h.1, h.2)), λ h. (h.0, h.1.0, h.1.1)))
fixed_uses plus x e = over plus _ x e (λ u. (λ h. (h.0, (h.1, h.2)), λ h. (h.0, h.1.0, h.1.1)))
fixed_uses minus x e = over minus _ x e (λ u. (λ h. (h.0, (h.1, h.2)), λ h. (h.0, h.1.0, h.1.1)))
fixed_uses times x e = over times _ x e (λ u. (λ h. (h.0, (h.1, h.2)), λ h. (h.0, h.1.0, h.1.1)))
fixed_uses divide x e = over divide _ x e (λ u. (λ h. (h.0, (h.1, h.2)), λ h. (h.0, h.1.0, h.1.1)))
fixed_uses modulo x e = over modulo _ x e (λ u. (λ h. (h.0, (h.1, h.2)), λ h. (h.0, h.1.0, h.1.1)))

pub if_ok : {A E : Type 0} {P Q : A → Type 0} (r : Result A E) → ((x : A) → P x → Q x) → IfOk r P → IfOk r Q
if_ok (Ok x) f p = f x p
if_ok (Err e) f p = tt
