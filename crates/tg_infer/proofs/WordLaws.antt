-- What the names are declared as.
use Rattle.std.proofs.Common.{ℕ, suc, ◌≡◌, ◌+◌, ◌≤◌, Bool, true, false, not, ◌||◌, map, take, drop, length, subst, append_assoc, List, [], ◌∷◌, ◌++◌, Some, None, refl, sym, ◌∙◌, ap, if◌then◌else◌, arith}
use Rattle.std.specs.Option.{option_map_or}
use Rattle.std.specs.Str.{bytes_eq}
use Rattle.std.specs.Prelude.{slice_get, is_some}
use Rattle.std.proofs.lemmas.List.{map-append, take-append-drop, take_all}
use Rattle.tg_model.specs.Theory.{Datatype, Constructor, Function, Program}
use Rattle.tg_model.specs.Accepted.{constructor_names as model_names}
use Rattle.tg_term.proofs.PartLaws.{drop_at}
use Rattle.tg_accept.specs.Datatypes.{are_taken, names_in}
use Rattle.tg_accept.specs.Raw.{RawConstructor}
use Rattle.tg_grammar.specs.declared.declarations.RawConDef.{RawConDef}
use Rattle.tg_theory.specs.Names.{HaveSameNames}
use Rattle.tg_infer.specs.View.{raw_constructor}
use Rattle.tg_accept.specs.Declared.{Declared, with_datatype, with_function, with_program}
use Rattle.tg_accept.specs.Faults.{is_taken, first_taken}
use Rattle.tg_accept.specs.Kept.{names_of_values}
use Rattle.tg_accept.specs.Meaning as meaning
use Rattle.tg_accept.specs.Meaning.{number_of, word_named, constructor_named}
use Rattle.tg_theory.proofs.Taken.{taken_append, first_same, next_free, next_taken}
use Rattle.tg_infer.specs.declared.words.Words.{Words}
use Rattle.tg_infer.specs.Words.{AreWordsOf, HaveType, HaveConstructors, Takes, HaveFunction, HaveProgram, word_in, values_in, program_names}

pub taken_in : (x : List ℕ) (w : Words)
    → is_taken x (values_in w) ≡ (is_taken x w.constructors || (is_taken x w.functions || is_taken x (program_names w.program)))
taken_in x w =
    taken_append x w.constructors (w.functions ++ program_names w.program)
    ∙ ap (λ b. is_taken x w.constructors || b) (taken_append x w.functions (program_names w.program))

pub taken_one : (x y : List ℕ) → is_taken x (y ∷ []) ≡ bytes_eq x y
taken_one x y = or_false (bytes_eq x y)
  where
    or_false : (b : Bool) → (b || false) ≡ b
    or_false true = refl
    or_false false = refl

pub ruleset naming = (taken_in, taken_one)

-- the words are those of what is declared
pub same_word : (w : Words) (D : Declared) (x : List ℕ) → AreWordsOf w D → word_in w x ≡ word_named D x
same_word w D x h = λ i.
    option_map_or (λ c. Some (meaning.constructor c))
    (number_of x (h.constructors i))
    (option_map_or (λ f. Some (meaning.function f))
    (number_of x (h.functions i))
    (if is_taken x (h.program i) then Some meaning.the_program else None))

pub same_values : (w : Words) (D : Declared) → AreWordsOf w D → values_in w ≡ names_of_values D
same_values w D h = λ i. h.constructors i ++ (h.functions i ++ h.program i)

pub same_constructor : (w : Words) (D : Declared) (x : List ℕ) → AreWordsOf w D → number_of x w.constructors ≡ constructor_named D x
same_constructor w D x h = ap (number_of x) h.constructors

-- ---- adding names

-- a name behind the constructors' is one more name
same_behind : (w v : Words) (x : List ℕ) → v.constructors ≡ w.constructors ++ x ∷ [] → v.functions ≡ w.functions → v.program ≡ w.program
    → HaveSameNames (values_in w ++ x ∷ []) (values_in v)
same_behind w v x c f p y =
    taken_append y (values_in w) (x ∷ []) ∙ ap (λ b. b || is_taken y (x ∷ [])) (taken_in y w)
    ∙ turn (is_taken y w.constructors) (is_taken y w.functions || is_taken y (program_names w.program)) (is_taken y (x ∷ []))
    ∙ ap (λ b. b || (is_taken y w.functions || is_taken y (program_names w.program))) (sym (taken_append y w.constructors (x ∷ [])))
    ∙ (λ i. is_taken y (sym c i) || (is_taken y (sym f i) || is_taken y (program_names (sym p i)))) ∙ sym (taken_in y v)
  where
    turn : (a b c : Bool) → ((a || b) || c) ≡ ((a || c) || b)
    turn true b c = refl
    turn false true true = refl
    turn false true false = refl
    turn false false true = refl
    turn false false false = refl

-- some constructors have their names added, and what is left decides
pub record AreTaking (old now : Words) (cons rest : List RawConstructor) : Type 0 where
  pub first : List (List ℕ)
  pub all : names_in cons ≡ first ++ names_in rest
  pub words : HaveConstructors old now first
  pub left : first_taken (values_in old) (names_in cons) ≡ first_taken (values_in now) (names_in rest)

pub begin_taking : (w : Words) (cons : List RawConDef) → AreTaking w w (map raw_constructor cons) (map raw_constructor cons)
begin_taking w cons = record {
  first = [];
  all = refl;
  words = record { types = refl; constructors = last w.constructors; functions = refl; program = refl };
  left = refl;
}
  where
    last : (xs : List (List ℕ)) → xs ≡ xs ++ []
    last [] = refl
    last (x ∷ xs) = ap (λ l. x ∷ l) (last xs)

rest_at : (cons : List RawConDef) (i : ℕ) (c : RawConDef) → slice_get cons i ≡ Some c
    → map raw_constructor (drop i cons) ≡ raw_constructor c ∷ map raw_constructor (drop (i + 1) cons)
rest_at cons i c e = ap (map raw_constructor) (drop_at cons i c e ∙ ap (λ n. c ∷ drop n cons) (let s : suc i ≡ i + 1 = omega arith in s))

pub take_next : (old now new : Words) (cons : List RawConDef) (i : ℕ) (c : RawConDef) → slice_get cons i ≡ Some c
    → AreTaking old now (map raw_constructor cons) (map raw_constructor (drop i cons)) → is_taken c.name (values_in now) ≡ false
    → new.constructors ≡ now.constructors ++ c.name ∷ [] → new.types ≡ now.types → new.functions ≡ now.functions → new.program ≡ now.program
    → AreTaking old new (map raw_constructor cons) (map raw_constructor (drop (i + 1) cons))
take_next old now new cons i c at h free cs ts fs ps =
    let d = rest_at cons i c at in
    let rest = names_in (map raw_constructor (drop (i + 1) cons)) in
    record {
      first = h.first ++ c.name ∷ [];
      all = h.all ∙ ap (λ l. h.first ++ names_in l) d ∙ sym (append_assoc h.first (c.name ∷ []) rest);
      words = record {
        types = ts ∙ h.words.types;
        constructors = cs ∙ ap (λ l. l ++ c.name ∷ []) h.words.constructors ∙ append_assoc old.constructors h.first (c.name ∷ []);
        functions = fs ∙ h.words.functions;
        program = ps ∙ h.words.program;
      };
      left =
          h.left ∙ ap (λ l. first_taken (values_in now) (names_in l)) d ∙ next_free (values_in now) rest c.name free
          ∙ first_same (values_in now ++ c.name ∷ []) (values_in new) rest (same_behind now new c.name cs fs ps);
    }

pub take_stop : (old now : Words) (cons : List RawConDef) (i : ℕ) (c : RawConDef) → slice_get cons i ≡ Some c
    → AreTaking old now (map raw_constructor cons) (map raw_constructor (drop i cons)) → is_taken c.name (values_in now) ≡ true
    → are_taken (values_in old) (names_in (map raw_constructor cons)) ≡ true
take_stop old now cons i c at h taken =
    ap is_some (h.left ∙ ap (λ l. first_taken (values_in now) (names_in l)) (rest_at cons i c at)
    ∙ next_taken (values_in now) (names_in (map raw_constructor (drop (i + 1) cons))) c.name taken)

pub take_end : (old now : Words) (cons : List RawConDef) → AreTaking old now (map raw_constructor cons) []
    → Takes old now (names_in (map raw_constructor cons)) true
take_end old now cons h =
    (ap is_some h.left, subst (HaveConstructors old now) (sym (h.all ∙ nothing h.first)) h.words)
  where
    nothing : (xs : List (List ℕ)) → xs ++ [] ≡ xs
    nothing [] = refl
    nothing (x ∷ xs) = ap (λ l. x ∷ l) (nothing xs)

pub is_in_constructors : (w : Words) (x : List ℕ) → is_taken x (values_in w) ≡ false → is_taken x w.constructors ≡ false
is_in_constructors w x e = go (is_taken x w.constructors) (sym (taken_in x w) ∙ e)
  where
    go : (b : Bool) → (b || (is_taken x w.functions || is_taken x (program_names w.program))) ≡ false → b ≡ false
    go true f = f
    go false f = refl

pub ruleset taking = (begin_taking)

-- ---- the names stay those of what is declared

pub with_datatype_named : (old now new : Words) (D : Declared) (m : Datatype) (xs : List (List ℕ)) → AreWordsOf old D → HaveType old now m.name
    → HaveConstructors now new xs → xs ≡ map (λ (c : Constructor). c.name) m.constructors → AreWordsOf new (with_datatype D m)
with_datatype_named old now new D m xs h t g e = record {
  types = g.types ∙ t.types ∙ ap (λ l. l ++ m.name ∷ []) h.types ∙ sym (map-append (λ (x : Datatype). x.name) D.datatypes (m ∷ []));
  constructors = g.constructors ∙ (λ i. (t.constructors ∙ h.constructors) i ++ e i) ∙ sym (names_appended D.datatypes m);
  functions = g.functions ∙ t.functions ∙ h.functions;
  program = ap program_names (g.program ∙ t.program) ∙ h.program;
}
  where
    last : (xs : List (List ℕ)) → xs ≡ xs ++ []
    last [] = refl
    last (x ∷ xs) = ap (λ l. x ∷ l) (last xs)

    names_appended : (xs : List Datatype) (x : Datatype) → model_names (xs ++ x ∷ []) ≡ model_names xs ++ map (λ (c : Constructor). c.name) x.constructors
    names_appended [] x = sym (last (map (λ (c : Constructor). c.name) x.constructors))
    names_appended (y ∷ ys) x =
        ap (λ l. map (λ (c : Constructor). c.name) y.constructors ++ l) (names_appended ys x)
        ∙ sym (append_assoc (map (λ (c : Constructor). c.name) y.constructors) (model_names ys) (map (λ (c : Constructor). c.name) x.constructors))

pub with_function_named : (old new : Words) (D : Declared) (f : Function) → AreWordsOf old D → HaveFunction old new f.name → AreWordsOf new (with_function D f)
with_function_named old new D f h g = record {
  types = g.types ∙ h.types;
  constructors = g.constructors ∙ h.constructors;
  functions = g.functions ∙ ap (λ l. l ++ f.name ∷ []) h.functions ∙ sym (map-append (λ (x : Function). x.name) D.functions (f ∷ []));
  program = ap program_names g.program ∙ h.program;
}

pub with_program_named : (old new : Words) (D : Declared) (p : Program) → AreWordsOf old D → HaveProgram old new p.name → AreWordsOf new (with_program D p)
with_program_named old new D p h g = record {
  types = g.types ∙ h.types;
  constructors = g.constructors ∙ h.constructors;
  functions = g.functions ∙ h.functions;
  program = ap program_names g.program;
}
