-- The size of the shapes of a type.
use Rattle.std.proofs.Common.{ℕ, suc, ◌≡◌, ◌<◌, ◌+◌, Bool, true, false, ◌&&◌, ◌||◌, get_or, List, [], ◌∷◌, ◌++◌, map, length, Option, Some, refl, sym, ◌∙◌, ap, ap₂, subst, arith, max, if◌then◌else◌, append-nil, nat_eq, append_assoc, length-append}
use Rattle.std.specs.Prelude.{slice_get, unwrap_or}
use Rattle.std.specs.Option.{option_map_or}
use Rattle.std.specs.Borrow.{Bor}
use Rattle.std.proofs.lemmas.Bool.{eqb-true}
use Rattle.std.proofs.lemmas.Option.{none-some}
use Rattle.std.proofs.lemmas.List.{length-map, map-append}
use Rattle.tg_model.proofs.Booleans.{and_left, and_right}
use Rattle.tg_model.specs.Types as model
use Rattle.tg_model.specs.Types.{Ty, applied, parameter, tys, elements}
use Rattle.tg_model.specs.Theory.{Theory, Datatype, Constructor, instance, instances, numbered, first_constructor}
use Rattle.tg_model.proofs.ValueTyping.{elements-tys}
use Rattle.tg_accept.specs.Faults.{is_parameter, are_parameters, is_itself, has_parameter, any_has_parameter}
use Rattle.tg_types.specs.Types.{ty, types}
use Rattle.tg_split.specs.declared.known.Known.{Known}
use Rattle.std.proofs.lemmas.List.Elements.{All-get_or}
use Rattle.tg_types.specs.declared.types.Ty as declared
use Rattle.tg_declarations.specs.declared.definitions.ConDef.{ConDef}
use Rattle.tg_declarations.specs.declared.definitions.DataDef.{DataDef}
use Rattle.tg_declarations.specs.View.{constructor, datatype}
use Rattle.tg_split.specs.declared.sizes.Size.{Size}
use Rattle.tg_split.specs.declared.sizes.Size.TheVariants.{Passed, Within}
use Rattle.tg_split.specs.declared.scopes.Scope.{Scope}
use Rattle.tg_split.specs.declared.scopes.Scope.TheVariants.{Closed, Within as Inside}
use Rattle.tg_split.specs.Scopes.{arguments, arguments-Closed, arguments-Within, within}
use Rattle.tg_split.specs.Shapes.{Shape, Shapes, hole, node, none, more, product, products, of_constructors, arguments_at, of_type}
use Rattle.tg_split.specs.Sizes.{most, nodes, all_nodes, is_over, count, counted, counted_shapes, size_of, size_of_lists, either, both, under, no_shape, AreMade}
use Rattle.tg_term.specs.Measures.{nodes_of, nodes as nodes_in}
use Rattle.tg_model.specs.Accepted.{IsAccepted}
use Rattle.tg_model.proofs.Inhabited.{list_closed_instance}
use Rattle.tg_split.specs.Patterns.{Pattern, pattern_of, patterns, of_input, to_depth, holes, term_from, terms_from}
use Rattle.tg_split.specs.Known.{size_of_data, AreRight}
use Rattle.tg_split.proofs.SizeLaws.{either_sizes, both_sizes, under_sizes}

neither : (a b : Bool) → (a || b) ≡ false → (a ≡ false) × (b ≡ false)
neither true b e = cc e
neither false b e = (refl, e)

pub instances_of : (us : List Ty) (ts : List declared.Ty) → instances us (tys (map ty ts)) ≡ tys (map (λ t. instance us (ty t)) ts)
instances_of us [] = refl
instances_of us (t ∷ ts) = ap (model.more (instance us (ty t))) (instances_of us ts)

-- ---- constructors

module _ (f : Ty → List Shape) where
  pub made_after : (c : ℕ) (xs : List (List Ty)) (ts : List Ty)
      → of_constructors f c (xs ++ ts ∷ []) ≡ of_constructors f c xs ++ map (node (c + length xs)) (products f ts)
  made_after c [] ts = append-nil (map (node c) (products f ts)) ∙ ap (λ n. map (node n) (products f ts)) (let e : c ≡ c + 0 = omega arith in e)
  made_after c (us ∷ xs) ts =
      let sum : suc c + length xs ≡ c + suc (length xs) = omega arith in
      ap (λ l. map (node c) (products f us) ++ l) (made_after (suc c) xs ts ∙ ap (λ n. of_constructors f (suc c) xs ++ map (node n) (products f ts)) sum)
      ∙ sym (append_assoc (map (node c) (products f us)) (of_constructors f (suc c) xs) (map (node (c + suc (length xs))) (products f ts)))

pub nothing_made : (ds : List Datatype) (k : ℕ) (us : List Ty) → AreMade ds k us [] no_shape
nothing_made ds k us c = refl

pub one_more_made : (ds : List Datatype) (k : ℕ) (us : List Ty) (xs : List Constructor) (x : Constructor) (total size : Size) → AreMade ds k us xs total
    → size ≡ size_of_lists (products (of_type ds k) (map (instance us) x.arguments)) → AreMade ds k us (xs ++ x ∷ []) (either total (under size))
one_more_made ds k us xs x total size h e c =
    let f = of_type ds k in
    let at : Constructor → List Ty = λ (y : Constructor). map (instance us) y.arguments in
    let n : ℕ = c + length (map at xs) in
    ap₂ either (h c) (ap under e ∙ under_sizes n (products f (at x)))
    ∙ (either_sizes (of_constructors f c (map at xs)) (map (node n) (products f (at x)))
    ∙ (ap size_of (sym (made_after f c (map at xs) (at x))) ∙ ap (λ l. size_of (of_constructors f c l)) (sym (map-append at xs (x ∷ [])))))

-- ---- arguments

pub one_more_argument : (f : Ty → List Shape) (t : Ty) (ts : List Ty) (part size : Size) → part ≡ size_of (f t) → size ≡ size_of_lists (products f ts)
    → both part size ≡ size_of_lists (products f (t ∷ ts))
one_more_argument f t ts part size p q = ap₂ both p q ∙ both_sizes (f t) (products f ts)

-- ---- a datatype at its own parameters

parameter_there : (pre us : List Ty) (u : Ty) (t : Ty) → is_parameter (suc (length pre)) t ≡ true → instance (pre ++ u ∷ us) t ≡ u
parameter_there pre us u model.nat e = cc
parameter_there pre us u model.bool e = cc
parameter_there pre us u (parameter n) e =
    let same : n ≡ suc (length pre) = eqb-true n (suc (length pre)) e in
    ap (λ m. unwrap_or (numbered (pre ++ u ∷ us) m) model.nat) same ∙ ap (λ o. unwrap_or o model.nat) (there pre)
  where
    there : (l : List Ty) → slice_get (l ++ u ∷ us) (length l) ≡ Some u
    there [] = refl
    there (x ∷ l) = there l
parameter_there pre us u (model.meta n) e = cc
parameter_there pre us u (applied d ts) e = cc

these_parameters : (pre us : List Ty) (ts : model.Tys) → are_parameters (suc (length pre)) ts ≡ true → length (elements ts) ≡ length us
    → instances (pre ++ us) ts ≡ tys us
these_parameters pre [] model.none e n = refl
these_parameters pre (u ∷ us) model.none e n = absurd (omega (arith, n))
these_parameters pre [] (model.more t ts) e n = absurd (omega (arith, n))
these_parameters pre (u ∷ us) (model.more t ts) e n =
    let next = length-append pre (u ∷ []) in
    let place : suc (length pre) + 1 ≡ suc (length (pre ++ u ∷ [])) = omega (arith, next) in
    let rest = these_parameters (pre ++ u ∷ []) us ts (subst (λ m. are_parameters m ts ≡ true) place (and_right (is_parameter (suc (length pre)) t) (are_parameters (suc (length pre) + 1) ts) e)) (omega (arith, n)) in
    ap₂ model.more (parameter_there pre us u t (and_left (is_parameter (suc (length pre)) t) (are_parameters (suc (length pre) + 1) ts) e))
    (ap (λ l. instances l ts) (sym (append_assoc pre (u ∷ []) us)) ∙ rest)

pub at_itself : (us : List Ty) (d : ℕ) (t : Ty) → is_itself d (length us) t ≡ true → instance us t ≡ applied d (tys us)
at_itself us d model.nat e = cc
at_itself us d model.bool e = cc
at_itself us d (parameter n) e = cc
at_itself us d (model.meta n) e = cc
at_itself us d (applied f ts) e =
    let rest = and_right (nat_eq f d) (nat_eq (length (elements ts)) (length us) && are_parameters 1 ts) e in
    let same = eqb-true f d (and_left (nat_eq f d) (nat_eq (length (elements ts)) (length us) && are_parameters 1 ts) e) in
    let count = eqb-true (length (elements ts)) (length us) (and_left (nat_eq (length (elements ts)) (length us)) (are_parameters 1 ts) rest) in
    let all = these_parameters [] us ts (and_right (nat_eq (length (elements ts)) (length us)) (are_parameters 1 ts) rest) count in
    ap₂ applied same all

pub size_of_itself : (ds : List Datatype) (k : ℕ) (us : List Ty) (d : ℕ) (t : Ty) (size : Size) → is_itself d (length us) t ≡ true
    → size ≡ size_of (of_type ds k (applied d (tys us))) → size ≡ size_of (of_type ds k (instance us t))
size_of_itself ds k us d t size e h = h ∙ ap (λ u. size_of (of_type ds k u)) (sym (at_itself us d t e))

pub size_of_made : (ds : List Datatype) (k : ℕ) (d : ℕ) (us : List Ty) (x : Datatype) (size : Size) → numbered ds d ≡ Some x → AreMade ds k us x.constructors size
    → size ≡ size_of (of_type ds (suc k) (applied d (tys us)))
size_of_made ds k d us x size is made =
    let at : List Ty → Constructor → List Ty = λ l (c : Constructor). map (instance l) c.arguments in
    made (first_constructor ds d)
    ∙ ap (λ (o : Option Datatype). size_of (of_constructors (of_type ds k) (first_constructor ds d) (option_map_or (λ (y : Datatype). map (at us) y.constructors) o []))) (sym is)
    ∙ ap (λ l. size_of (of_constructors (of_type ds k) (first_constructor ds d) (arguments_at ds d l))) (sym (elements-tys us))

pub size_in_scope : (ds : List Datatype) (k : ℕ) (d : ℕ) (ts : Bor (List declared.Ty)) (outer : Bor Scope) (def : DataDef) (cons : List ConDef) (size : Size)
    → numbered ds d ≡ Some (datatype def) → cons ≡ def.cons → AreMade ds k (arguments (Inside ts outer)) (map constructor cons) size
    → size ≡ size_of (of_type ds (suc k) (applied d (tys (within ts.now outer.now))))
size_in_scope ds k d ts outer def cons size is same made =
    size_of_made ds k d (within ts.now outer.now) (datatype def) size is
    (subst (λ l. AreMade ds k l (map constructor def.cons) size) (arguments-Within ts outer)
    (subst (λ l. AreMade ds k (arguments (Inside ts outer)) (map constructor l) size) same made))

-- ---- the patterns of the inputs

count_if : (b : Bool) (n x : ℕ) → count (if b then Passed else Within n x) ≡ (if b then 4097 else n)
count_if true n x = refl
count_if false n x = refl

mutual
  nodes_from : (s : Shape) (n : ℕ) → nodes_in (term_from n s) ≡ nodes s
  nodes_from (hole t) n = refl
  nodes_from (node c ss) n = ap (λ m. 1 + m) (all_nodes_from ss n)

  all_nodes_from : (ss : Shapes) (n : ℕ) → nodes_of (terms_from n ss) ≡ all_nodes ss
  all_nodes_from none n = refl
  all_nodes_from (more s ss) n = ap₂ (λ a b. a + b) (nodes_from s n) (all_nodes_from ss (n + length (holes s)))

most_patterns : (sss : List Shapes) → most (λ (p : Pattern). nodes_of p.terms) (map pattern_of sss) ≡ most all_nodes sss
most_patterns [] = refl
most_patterns (ss ∷ sss) = ap₂ max (all_nodes_from ss 1) (most_patterns sss)

count_of_lists : (sss : List Shapes) → count (size_of_lists sss) ≡ counted (map pattern_of sss)
count_of_lists sss =
    count_if (is_over (length sss) (most all_nodes sss)) (length sss) (most all_nodes sss)
    ∙ ap₂ (λ n x. if is_over n x then 4097 else n) (sym (length-map sss pattern_of)) (sym (most_patterns sss))

at_one_depth : (th : Theory) (k : ℕ) (ts : List Ty) → products (of_type th.datatypes k) ts ≡ products (of_input th) (to_depth k ts)
at_one_depth th k [] = refl
at_one_depth th k (t ∷ ts) = ap (product (of_type th.datatypes k t)) (at_one_depth th k ts)

pub products_of_inputs : (th : Theory) (k : ℕ) → IsAccepted th
    → products (of_type th.datatypes k) (map (instance (arguments Closed)) th.program.inputs) ≡ products (of_input th) (to_depth k th.program.inputs)
products_of_inputs th k accepted =
    ap (λ us. products (of_type th.datatypes k) (map (instance us) th.program.inputs)) arguments-Closed
    ∙ ap (products (of_type th.datatypes k)) (list_closed_instance th [] th.program.inputs accepted.well_typed.inputs) ∙ at_one_depth th k th.program.inputs

pub count_of_inputs : (th : Theory) (k : ℕ) → IsAccepted th
    → counted_shapes (products (of_type th.datatypes k) (map (instance (arguments Closed)) th.program.inputs)) ≡ counted (patterns th k)
count_of_inputs th k accepted =
    ap counted_shapes (products_of_inputs th k accepted) ∙ count_of_lists (products (of_input th) (to_depth k th.program.inputs))

pub past_end : {A : Type 0} (xs : List A) (x : A) → slice_get xs (length xs) ≡ Some x → ⊥
past_end [] x e = none-some x e
past_end (y ∷ xs) x e = past_end xs x e

-- ---- a datatype at closed types

mutual
  closed_type : (us : List Ty) (t : Ty) → has_parameter t ≡ false → instance us t ≡ t
  closed_type us model.nat e = refl
  closed_type us model.bool e = refl
  closed_type us (parameter n) e = cc e
  closed_type us (model.meta n) e = refl
  closed_type us (applied d ts) e = ap (applied d) (closed_types us ts e)

  closed_types : (us : List Ty) (ts : model.Tys) → any_has_parameter ts ≡ false → instances us ts ≡ ts
  closed_types us model.none e = refl
  closed_types us (model.more t ts) e =
      let parts = neither (has_parameter t) (any_has_parameter ts) e in ap₂ model.more (closed_type us t parts.0) (closed_types us ts parts.1)

pub at_closed_types : (ds : List Datatype) (k d : ℕ) (ts : List declared.Ty) (outer : Scope) → any_has_parameter (types ts) ≡ false
    → size_of_data ds d (types ts) k ≡ size_of (of_type ds k (applied d (tys (within ts outer))))
at_closed_types ds k d ts outer e =
    ap (λ l. size_of (of_type ds k (applied d l))) (sym (closed_types (arguments outer) (types ts) e) ∙ instances_of (arguments outer) ts)

pub known_again : (ds : List Datatype) (known : List Known) (n d k : ℕ) (x : Known) (ts : List declared.Ty) → AreRight ds known → n < length known
    → x ≡ get_or known n x → x.data ≡ d → x.depth ≡ k → types x.types.now ≡ types ts → x.size ≡ size_of_data ds d (types ts) k
known_again ds known n d k x ts right low is data_is depth_is types_are =
    let P : Known → Type 0 = λ y. y.size ≡ size_of_data ds y.data (types y.types.now) y.depth in
    let here : x.size ≡ size_of_data ds x.data (types x.types.now) x.depth = subst P (sym is) (All-get_or P known n x low right) in
    here ∙ (λ i. size_of_data ds (data_is i) (types_are i) (depth_is i))

pub ruleset knowing = (known_again)

pub ruleset counting = (size_of_itself, at_closed_types)
