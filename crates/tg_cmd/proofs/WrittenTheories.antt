-- The names of a theory that a text means are words that aren't reserved.
use Rattle.std.proofs.Common.{ℕ, ◌≡◌, Bool, true, false, List, [], ◌∷◌, ◌++◌, map, Option, Some, None, refl, sym, ap, ◌∙◌, subst, append_assoc, append-nil, IfSome}
use Rattle.std.specs.Prelude.{option_map, option_and_then, unwrap_or, if◌then◌else◌}
use Rattle.std.specs.Option.{option_map_or}
use Rattle.std.proofs.lemmas.List.{map-append}
use Rattle.tg_model.specs.Accepted.{constructor_names, value_names}
use Rattle.tg_model.specs.Theory.{Theory, Datatype, Constructor, Function, Program}
use Rattle.tg_model.specs.Types.{Ty}
use Rattle.tg_accept.specs.Datatypes.{names_in, constructor_meant}
use Rattle.tg_accept.specs.Declared.{Declared, nothing, theory, no_program, with_datatype, with_function, with_program, with_specification}
use Rattle.tg_accept.specs.Faults.{is_taken}
use Rattle.tg_accept.specs.Equations.{Equation}
use Rattle.tg_accept.specs.Functions.{whole_function, signature_of}
use Rattle.tg_accept.specs.Kept.{names_of_types, names_of_values, name_of_program}
use Rattle.tg_accept.specs.Meaning.{each_meant, type_meant}
use Rattle.tg_accept.specs.Programs.{specification_meant, whole_specification}
use Rattle.tg_accept.specs.Raw.{Name, RawConstructor, RawDeclaration, datatype, primrec, definition, program, specification}
use Rattle.tg_accept.specs.Resolved.{Resolved}
use Rattle.tg_accept.specs.Theories.{after, IsTheoryOf}
use Rattle.tg_theory.specs.Names.{IsName, AreNames}
use Rattle.tg_theory.specs.Wholes.{IsWritten}
use Rattle.tg_theory.proofs.BuiltLaws.{words_both, words_left, words_right}
use Rattle.tg_infer.specs.Named.{names_declared, AreNamed}

-- all names that are declared so far are words
record Words (D : Declared) : Type 0 where
  types : AreNames (names_of_types D)
  values : AreNames (names_of_values D)

abbrev name_in : Constructor → Name
name_in c = c.name

abbrev function_name : Function → Name
function_name x = x.name

abbrev datatype_name : Datatype → Name
datatype_name x = x.name

-- ---- a datatype

constructors_meant : (params names : List Name) (cs : List RawConstructor)
    → IfSome (each_meant (constructor_meant params names) cs) (λ ks. map name_in ks ≡ names_in cs)
constructors_meant params names [] = refl
constructors_meant params names (c ∷ cs) =
    by (each_meant (type_meant params names) c.arguments) (each_meant (constructor_meant params names) cs)
    (constructors_meant params names cs)
  where
    by : (o : Option (List Ty)) (r : Option (List Constructor)) → IfSome r (λ ks. map name_in ks ≡ names_in cs)
        → IfSome (option_and_then (λ y. option_map (λ ys. y ∷ ys) r) (option_map (λ ts. record { name = c.name; arguments = ts }) o))
        (λ ks. map name_in ks ≡ c.name ∷ names_in cs)
    by None r h = tt
    by (Some ts) None h = tt
    by (Some ts) (Some ks) h = ap (λ l. c.name ∷ l) h

names_behind : (ds : List Datatype) (d : Datatype) → constructor_names (ds ++ d ∷ []) ≡ constructor_names ds ++ map name_in d.constructors
names_behind [] d = append-nil (map name_in d.constructors)
names_behind (x ∷ ds) d =
    let own = map name_in x.constructors in
    ap (λ l. own ++ l) (names_behind ds d) ∙ sym (append_assoc own (constructor_names ds) (map name_in d.constructors))

with_datatype_words : (D : Declared) (d : Datatype) → Words D → IsName d.name → AreNames (map name_in d.constructors)
    → Words (with_datatype D d)
with_datatype_words D d w named cs =
    let front = constructor_names D.datatypes in
    let back = map function_name D.functions ++ name_of_program D.program in
    record {
      types = subst AreNames (sym (map-append datatype_name D.datatypes (d ∷ [])))
          (words_both (names_of_types D) (d.name ∷ []) w.types (named, tt));
      values = words_both (constructor_names (D.datatypes ++ d ∷ [])) back
          (subst AreNames (sym (names_behind D.datatypes d))
          (words_both front (map name_in d.constructors) (words_left front back w.values) cs))
          (words_right front back w.values);
    }

module _ (D : Declared) (w : Words D) where
  datatype_on : (x : Name) (n : ℕ) (cs : List RawConstructor) → IsName x → AreNames (names_in cs)
      → (taken : Bool) (o : Option (List Constructor))
      → IfSome o (λ ks. map name_in ks ≡ names_in cs)
      → Words (option_map_or (with_datatype D)
      (if taken then None else option_map (λ ks. record { name = x; parameters = n; constructors = ks }) o) D)
  datatype_on x n cs named constructors true o h = w
  datatype_on x n cs named constructors false None h = w
  datatype_on x n cs named constructors false (Some ks) h =
      with_datatype_words D (record { name = x; parameters = n; constructors = ks }) w named (subst AreNames (sym h) constructors)

  -- ---- a function

  with_function_words : (f : Function) → IsName f.name → Words (with_function D f)
  with_function_words f named =
      let cs = constructor_names D.datatypes in
      let fs = map function_name D.functions in
      let p = name_of_program D.program in
      let back = words_right cs (fs ++ p) w.values in
      record {
        types = w.types;
        values = words_both cs (map function_name (D.functions ++ f ∷ []) ++ p) (words_left cs (fs ++ p) w.values)
            (words_both (map function_name (D.functions ++ f ∷ [])) p
            (subst AreNames (sym (map-append function_name D.functions (f ∷ [])))
            (words_both fs (f.name ∷ []) (words_left fs p back) (named, tt)))
            (words_right fs p back));
      }

  function_on : (x : Name) (n : ℕ) (is_recursive : Bool) → IsName x
      → (taken : Bool) (p : Option (List Ty × Ty)) (es : Option (List Equation))
      → Words (option_map_or (λ m. with_function D (whole_function D is_recursive m))
      (if taken then None else option_and_then (λ f. option_map (λ ks. record { signature = f; equations = ks }) es)
      (option_map (signature_of x n) p)) D)
  function_on x n r named true p es = w
  function_on x n r named false None es = w
  function_on x n r named false (Some p) None = w
  function_on x n r named false (Some p) (Some es) =
      with_function_words (whole_function D r (record { signature = signature_of x n p; equations = es })) named

  -- ---- the program and the specification

  program_on : (x : Name) → IsName x → (taken : Bool) (p : Option (List Ty × Ty))
      → Words (option_map_or (with_program D)
      (if taken then None else option_map (λ (p : List Ty × Ty). record { name = x; inputs = p.0; answer = p.1 }) p) D)
  program_on x named true p = w
  program_on x named false None = w
  program_on x named false (Some p) =
      let cs = constructor_names D.datatypes in
      let fs = map function_name D.functions in
      let back = words_right cs (fs ++ name_of_program D.program) w.values in
      record {
        types = w.types;
        values = words_both cs (fs ++ x ∷ []) (words_left cs (fs ++ name_of_program D.program) w.values)
            (words_both fs (x ∷ []) (words_left fs (name_of_program D.program) back) (named, tt));
      }

  specification_on : (o : Option Resolved) → Words (option_map_or (λ t. with_specification D (whole_specification D t)) o D)
  specification_on None = w
  specification_on (Some t) = record { types = w.types; values = w.values }

  -- ---- a declaration

  one_more : (y : RawDeclaration) → AreNames (names_declared y) → Words (after D y)
  one_more (datatype x params cs) h =
      datatype_on x _ cs h.0 h.1 _ _ (constructors_meant params (names_of_types D ++ x ∷ []) cs)
  one_more (primrec x ts es) h = function_on x _ true h.0 (is_taken x (names_of_values D)) _ _
  one_more (definition x ts es) h = function_on x _ false h.0 (is_taken x (names_of_values D)) _ _
  one_more (program x ts) h = program_on x h.0 (is_taken x (names_of_values D)) _
  one_more (specification xs body) h = specification_on (specification_meant D xs body)

all_words : (x : Name) (D : Declared) (ys : List RawDeclaration) (th : Theory) → IsName x → Words D → AreNamed ys → IsTheoryOf x D ys th
    → IsWritten th
all_words x D [] th named w h (whole, is) =
    let same : names_of_values D ≡ value_names (theory x D) =
    let before = λ (l : List Name). constructor_names D.datatypes ++ (map function_name D.functions ++ l) in
    ap (λ o. before (name_of_program o)) whole.has_program ∙ ap (λ o. before (name_of o ∷ [])) (sym whole.has_program) in
    subst IsWritten (sym is) (record { name = named; types = w.types; values = subst AreNames same w.values })
  where
    name_of : Option Program → Name
    name_of o = (unwrap_or o no_program).name
all_words x D (y ∷ ys) th named w h (pass, rest) = all_words x (after D y) ys th named (one_more D w y h.0) h.1 rest

pub theory_is_written : (x : Name) (ys : List RawDeclaration) (th : Theory) → IsName x → AreNamed ys → IsTheoryOf x nothing ys th
    → IsWritten th
theory_is_written x ys th named h is = all_words x nothing ys th named (record { types = tt; values = tt }) h is
