-- Declarations of datatypes.
use Rattle.std.proofs.Common.{ℕ, ◌≡◌, Bool, true, false, ◌||◌, List, [], ◌∷◌, ◌++◌, length, map, Option, Some, None, refl, sym, ◌∙◌, ap, subst, if◌then◌else◌}
use Rattle.std.specs.Prelude.{option_map, option_and_then}
use Rattle.tg_accept.specs.Checks as checks
use Rattle.tg_accept.specs.Checks.{First, Pass}
use Rattle.tg_accept.specs.Datatypes.{are_taken, names_in, datatype_meant, constructor_meant, IsDatatypeShaped}
use Rattle.tg_accept.specs.Declared.{Declared, with_datatype}
use Rattle.tg_accept.specs.Faults.{Fault, is_taken, datatype_fault}
use Rattle.tg_accept.specs.Kept.{names_of_types, names_of_values}
use Rattle.tg_accept.specs.Meaning.{each_meant, type_meant, all_types_meant}
use Rattle.tg_accept.specs.Meant.{IsDatatypeMeant}
use Rattle.tg_accept.specs.Raw as raw
use Rattle.tg_accept.specs.Raw.{Name, RawConstructor}
use Rattle.std.specs.Option.{option_map_or}
use Rattle.std.proofs.Common.{inl, inr}
use Rattle.tg_accept.specs.MeantLaws.{Tells}
use Rattle.tg_accept.proofs.Told.{datatype_told}
use Rattle.tg_accept.specs.Theories.{checks_of, datatype_checks, after}
use Rattle.tg_theory.specs.declared.errors.BuildErr.{BuildErr}
use Rattle.tg_theory.specs.declared.errors.BuildErr.TheVariants as errors
use Rattle.tg_theory.specs.Causes.{IsCause}
use Rattle.tg_theory.specs.Names.{IsName, AreNames}
use Rattle.tg_theory.specs.Taking.{constructor_names}
use Rattle.tg_infer.specs.Causes.{refusal}
use Rattle.tg_infer.specs.Refused.{IsFirst, IsDeclared}
use Rattle.tg_model.specs.Accepted.{AreDistinct}
use Rattle.tg_model.specs.Theory.{Datatype, Constructor}
use Rattle.tg_declarations.specs.View as view
use Rattle.tg_declarations.specs.View.{datatype, constructor}
use Rattle.tg_declarations.specs.declared.definitions.ConDef.{ConDef}
use Rattle.tg_declarations.specs.declared.definitions.DataDef.{DataDef}
use Rattle.tg_grammar.specs.declared.declarations.RawConDef.{RawConDef}
use Rattle.tg_types.specs.declared.types.Ty.{Ty}
use Rattle.tg_types.specs.Types.{ty, types}
use Rattle.tg_infer.specs.declared.words.Words.{Words}
use Rattle.tg_infer.specs.Datatypes.{datatype_in, HaveNames}
use Rattle.tg_infer.specs.Words.{AreWordsOf, HaveType, HaveConstructors, Takes, values_in, program_names}
use Rattle.tg_infer.specs.View.{raw_type, raw_types, raw_constructor}
use Rattle.tg_infer.proofs.BinderLaws.{same_Some}
use Rattle.tg_infer.proofs.WordLaws.{same_values, with_datatype_named}
use Rattle.tg_infer.proofs.SignatureLaws.{each_found, each_not_found}

-- ---- constructors

pub constructor_found : (params names : List Name) (c : RawConDef) (ts : List Ty) (x : Name) → Some (types ts) ≡ all_types_meant params names (raw_types c.args)
    → x ≡ c.name → Some (constructor (record { name = x; args = ts })) ≡ constructor_meant params names (raw_constructor c)
constructor_found params names c ts x h e =
    ap (λ y. Some (let k : Constructor = record { name = y; arguments = map ty ts } in k)) e
    ∙ ap (option_map (λ us. (let k : Constructor = record { name = c.name; arguments = us } in k))) (each_found params names c.args ts h)

pub no_constructor_found : (params names : List Name) (c : RawConDef) → None ≡ all_types_meant params names (raw_types c.args)
    → None ≡ constructor_meant params names (raw_constructor c)
no_constructor_found params names c h = ap (option_map (λ us. (let k : Constructor = record { name = c.name; arguments = us } in k))) (each_not_found params names c.args h)

pub ruleset constructors = (constructor_found, no_constructor_found)

-- ---- what a declaration means

pub taken_type : (w : Words) (x : Name) (params : List Name) (cs : List RawConstructor) → is_taken x w.types ≡ true → None ≡ datatype_in w.types (values_in w) x params cs
taken_type w x params cs e =
    sym (ap (λ b. if b || are_taken (values_in w) (names_in cs) then None
    else option_map (λ ks. (let m : Datatype = record { name = x; parameters = length params; constructors = ks } in m)) (each_meant (constructor_meant params (w.types ++ x ∷ [])) cs)) e)

same_values_in : (a b : Words) (x : Name) → HaveType a b x → values_in b ≡ values_in a
same_values_in a b x h = λ i. h.constructors i ++ (h.functions i ++ program_names (h.program i))

pub taken_values : (a b c : Words) (x : Name) (params : List Name) (cs : List RawConstructor) → HaveType a b x → Takes b c (names_in cs) false
    → None ≡ datatype_in a.types (values_in a) x params cs
taken_values a b c x params cs h e =
    sym (ap (λ t. if is_taken x a.types || t then None
    else option_map (λ ks. (let m : Datatype = record { name = x; parameters = length params; constructors = ks } in m)) (each_meant (constructor_meant params (a.types ++ x ∷ [])) cs))
    (ap (λ l. are_taken l (names_in cs)) (sym (same_values_in a b x h)) ∙ e) ∙ go (is_taken x a.types))
  where
    go : (t : Bool) → (if t || true then None
        else option_map (λ ks. (let m : Datatype = record { name = x; parameters = length params; constructors = ks } in m)) (each_meant (constructor_meant params (a.types ++ x ∷ [])) cs)) ≡ None
    go true = refl
    go false = refl

free_names : (a b c : Words) (x : Name) (params : List Name) (cs : List RawConstructor) → is_taken x a.types ≡ false → HaveType a b x → Takes b c (names_in cs) true
    → datatype_in a.types (values_in a) x params cs
    ≡ option_map (λ ks. (let m : Datatype = record { name = x; parameters = length params; constructors = ks } in m)) (each_meant (constructor_meant params c.types) cs)
free_names a b c x params cs free h e =
    (λ i. if free i || (ap (λ l. are_taken l (names_in cs)) (sym (same_values_in a b x h)) ∙ e.0) i then None
    else option_map (λ ks. (let m : Datatype = record { name = x; parameters = length params; constructors = ks } in m)) (each_meant (constructor_meant params (a.types ++ x ∷ [])) cs))
    ∙ ap (λ l. option_map (λ ks. (let m : Datatype = record { name = x; parameters = length params; constructors = ks } in m)) (each_meant (constructor_meant params l) cs))
    (sym (e.1.types ∙ h.types))

pub not_meant : (a b c : Words) (x : Name) (params : List Name) (cs : List RawConstructor) → is_taken x a.types ≡ false → HaveType a b x → Takes b c (names_in cs) true
    → None ≡ each_meant (constructor_meant params c.types) cs → None ≡ datatype_in a.types (values_in a) x params cs
not_meant a b c x params cs free h e none =
    ap (option_map (λ ks. (let m : Datatype = record { name = x; parameters = length params; constructors = ks } in m))) none ∙ sym (free_names a b c x params cs free h e)

pub def_found : (a b c : Words) (x y : Name) (params : List Name) (n : ℕ) (cs : List RawConstructor) (ks : List ConDef) → is_taken x a.types ≡ false → HaveType a b x
    → Takes b c (names_in cs) true → Some (map constructor ks) ≡ each_meant (constructor_meant params c.types) cs → n ≡ length params → y ≡ x
    → Some (datatype (record { name = y; params = n; cons = ks })) ≡ datatype_in a.types (values_in a) x params cs
def_found a b c x y params n cs ks free h e found f g =
    (λ i. Some (let m : Datatype = record { name = g i; parameters = f i; constructors = map constructor ks } in m))
    ∙ ap (option_map (λ ks. (let m : Datatype = record { name = x; parameters = length params; constructors = ks } in m))) found
    ∙ sym (free_names a b c x params cs free h e)

pub names_found : (a b c : Words) (x : Name) (cs : List RawConstructor) → HaveType a b x → Takes b c (names_in cs) true → HaveNames a c x (names_in cs)
names_found a b c x cs h e = record { between = b; type_name = h; constructors = e.1 }

pub ruleset meaning = (taken_type, taken_values, not_meant, def_found, names_found)

-- ---- what is wrong first

-- the names are those that are written
names_of_meant : (params names : List Name) (cs : List RawConstructor) (ks : List Constructor) → each_meant (constructor_meant params names) cs ≡ Some ks
    → map (λ (k : Constructor). k.name) ks ≡ names_in cs
names_of_meant params names [] ks e = sym (ap (map (λ (k : Constructor). k.name)) (same_Some [] ks e))
names_of_meant params names (c ∷ cs) ks e = go (each_meant (type_meant params names) c.arguments) (each_meant (constructor_meant params names) cs) refl e (λ ls f. names_of_meant params names cs ls f)
  where
    go : (o : Option (List _)) (r : Option (List Constructor)) → each_meant (constructor_meant params names) cs ≡ r
        → option_and_then (λ y. option_map (λ ys. y ∷ ys) r) (option_map (λ ts. (let k : Constructor = record { name = c.name; arguments = ts } in k)) o) ≡ Some ks
        → ((ls : List Constructor) → each_meant (constructor_meant params names) cs ≡ Some ls → map (λ (k : Constructor). k.name) ls ≡ names_in cs)
        → map (λ (k : Constructor). k.name) ks ≡ c.name ∷ names_in cs
    go None r q f h = cc f
    go (Some ts) None q f h = cc f
    go (Some ts) (Some ls) q f h = sym (ap (map (λ (k : Constructor). k.name)) (same_Some ((let k : Constructor = record { name = c.name; arguments = ts } in k) ∷ ls) ks f)) ∙ ap (λ l. c.name ∷ l) (h ls q)

meant_names : (types values : List Name) (x : Name) (params : List Name) (cs : List RawConstructor) (m : Datatype) → datatype_in types values x params cs ≡ Some m
    → (m.name ≡ x) × (map (λ (k : Constructor). k.name) m.constructors ≡ names_in cs)
meant_names types values x params cs m e = go (is_taken x types || are_taken values (names_in cs)) (each_meant (constructor_meant params (types ++ x ∷ [])) cs) refl e
  where
    go : (b : Bool) (o : Option (List Constructor)) → each_meant (constructor_meant params (types ++ x ∷ [])) cs ≡ o
        → (if b then None else option_map (λ ks. (let k : Datatype = record { name = x; parameters = length params; constructors = ks } in k)) o) ≡ Some m
        → (m.name ≡ x) × (map (λ (k : Constructor). k.name) m.constructors ≡ names_in cs)
    go true o q f = cc f
    go false None q f = cc f
    go false (Some ks) q f =
        let s : (let k : Datatype = record { name = x; parameters = length params; constructors = ks } in k) ≡ m = same_Some _ m f in (
          ap (λ (k : Datatype). k.name) (sym s),
          ap (λ (k : Datatype). map (λ (c : Constructor). c.name) k.constructors) (sym s) ∙ names_of_meant params (types ++ x ∷ []) cs ks q,
        )

-- the declaration means this datatype
pub record MeansDatatype (D : Declared) (w : Words) (x : Name) (params : List Name) (cs : List RawConstructor) (def : DataDef) : Type 0 where
  pub words : AreWordsOf w D
  pub is : Some (datatype def) ≡ datatype_in w.types (values_in w) x params cs

pub misnamed_first : (D : Declared) (w : Words) (x : Name) (params : List Name) (cs : List RawConstructor) → AreWordsOf w D
    → None ≡ datatype_in w.types (values_in w) x params cs → First (checks_of D (raw.datatype x params cs)) checks.name
misnamed_first D w x params cs h e =
    let f : None ≡ datatype_meant D x params cs = e ∙ (λ i. datatype_in (h.types i) (same_values w D h i) x params cs) in
    subst (λ o. First (datatype_checks D params o) checks.name) f (inl ((λ z. z), refl))

module _ (D : Declared) (w : Words) (x : Name) (params : List Name) (cs : List RawConstructor) (def : DataDef) (h : MeansDatatype D w x params cs def) where
  same : Some (datatype def) ≡ datatype_meant D x params cs
  same = h.is ∙ (λ i. datatype_in (h.words.types i) (same_values w D h.words i) x params cs)

  pub unmade_first : ¬ (IsDatatypeMeant D (datatype def)) → First (checks_of D (raw.datatype x params cs)) checks.typing
  unmade_first e = subst (λ o. First (datatype_checks D params o) checks.typing) same (inr (tt, inl (e, refl)))

  pub repeated_first : IsDatatypeMeant D (datatype def) → ¬ (AreDistinct params) → First (checks_of D (raw.datatype x params cs)) checks.shape
  repeated_first e repeats =
      subst (λ o. First (datatype_checks D params o) checks.shape) same (inr (tt, inr (e, inl ((λ s. repeats s.parameters), refl))))

  pub cause_first : IsDatatypeMeant D (datatype def) → AreDistinct params → (error : BuildErr) → IsCause (datatype_fault D (datatype def)) error
      → IsFirst (checks_of D (raw.datatype x params cs)) (refusal error)
  cause_first e distinct error c =
      subst (λ o. IsFirst (datatype_checks D params o) (refusal error)) same (go error c (datatype_told D x params cs (datatype def) (sym same) distinct))
    where
      go : (error : BuildErr) → IsCause (datatype_fault D (datatype def)) error → Tells (datatype_fault D (datatype def)) (IsDatatypeShaped D params (datatype def)) (Unit {0})
          → IsFirst (datatype_checks D params (Some (datatype def))) (refusal error)
      go (errors.Name y) c t = absurd (subst (λ o. Tells o (IsDatatypeShaped D params (datatype def)) (Unit {0})) c t)
      go errors.Shape c t = inr (tt, inr (e, inl (subst (λ o. Tells o (IsDatatypeShaped D params (datatype def)) (Unit {0})) c t, refl)))
      go errors.Program c t = let k = subst (λ o. Tells o (IsDatatypeShaped D params (datatype def)) (Unit {0})) c t in absurd (k.1 tt)
      go errors.Memory c t = tt

  pub datatype_declared : IsDatatypeMeant D (datatype def) → AreDistinct params → (new : Declared) (words : Words) → datatype_fault D (datatype def) ≡ None
      → new ≡ with_datatype D (datatype def) → HaveNames w words x (names_in cs) → IsDeclared D new words (raw.datatype x params cs)
  datatype_declared e distinct new words free is names =
      let t = subst (λ o. Tells o (IsDatatypeShaped D params (datatype def)) (Unit {0})) free (datatype_told D x params cs (datatype def) (sym same) distinct) in
      let n = meant_names w.types (values_in w) x params cs (datatype def) (sym h.is) in
      record {
        pass = subst (λ o. Pass (datatype_checks D params o)) same (tt, (e, (t.0, tt)));
        is = is ∙ ap (λ o. option_map_or (with_datatype D) o D) same;
        words = subst (AreWordsOf words) (sym is)
            (with_datatype_named w names.between words D (datatype def) (names_in cs) h.words
            (subst (HaveType w names.between) (sym n.0) names.type_name) names.constructors (sym n.1));
      }

  pub name_needed : AreNames (x ∷ names_in cs) → IsName def.name
  name_needed e = subst IsName (sym (meant_names w.types (values_in w) x params cs (datatype def) (sym h.is)).0) e.0

  pub names_needed : AreNames (x ∷ names_in cs) → AreNames (constructor_names def.cons)
  names_needed e = subst AreNames (sym (meant_names w.types (values_in w) x params cs (datatype def) (sym h.is)).1 ∙ names_of def.cons) e.1
    where
      names_of : (ks : List ConDef) → map (λ (c : Constructor). c.name) (map constructor ks) ≡ constructor_names ks
      names_of [] = refl
      names_of (c ∷ ks) = ap (λ l. c.name ∷ l) (names_of ks)

pub ruleset declaring = (misnamed_first)
