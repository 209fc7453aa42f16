-- Rows of shapes as patterns.
use Rattle.std.proofs.Common.{ℕ, zero, suc, ◌≡◌, ◌+◌, ◌<◌, List, [], ◌∷◌, ◌++◌, map, length, true, All, Some, refl, subst, sym, ◌∙◌, ap, ap₂, arith, append_assoc, append-nil, Option, take, length-append, length-take}
use Rattle.std.specs.Prelude.{slice_get, option_map}
use Rattle.std.proofs.lemmas.Option.{none-some, same_Some, slice_get-map}
use Rattle.std.proofs.lemmas.List.{map-append, length-map}
use Rattle.std.proofs.lemmas.List.Elements.{All-head, All-tail}
use Rattle.std.specs.Option.{option_map_or}
use Rattle.std.specs.Borrow.{Bor}
use Rattle.tg_model.specs.Accepted.{IsAccepted}
use Rattle.tg_model.proofs.Places.{get_within}
use Rattle.tg_model.proofs.ValueTyping.{elements-tys}
use Rattle.tg_term.proofs.PartLaws.{take_at}
use Rattle.tg_model.specs.Tree as tree
use Rattle.tg_model.specs.Tree.{Tree, Trees, trees, con, free, one}
use Rattle.tg_model.specs.Types as model
use Rattle.tg_model.specs.Theory.{Theory, Datatype, Constructor, instance, first_constructor, numbered}
use Rattle.tg_types.specs.declared.types.Ty as declared_types
use Rattle.tg_types.specs.declared.types.Ty.TheVariants.{Nat, Bool}
use Rattle.tg_types.specs.Types.{ty, ty-Nat, ty-Bool}
use Rattle.tg_term.specs.declared.classes.Pattern as declared
use Rattle.tg_declarations.specs.declared.definitions.ConDef.{ConDef}
use Rattle.tg_declarations.specs.declared.definitions.DataDef.{DataDef}
use Rattle.tg_declarations.specs.Owners.{numbers_from}
use Rattle.tg_declarations.specs.View.{constructor, datatype, constructor_numbers}
use Rattle.tg_split.specs.declared.numbering.Part as code
use Rattle.tg_split.specs.declared.scopes.Scope.{Scope}
use Rattle.tg_split.specs.declared.scopes.Scope.TheVariants.{Closed, Within as Inside}
use Rattle.tg_split.specs.Scopes.{arguments, arguments-Within, within}
use Rattle.tg_split.specs.Shapes.{Shape, Shapes, hole, node, none, more, product, products, of_constructors, arguments_at, of_type}
use Rattle.tg_split.specs.Patterns.{Pattern, pattern_of, patterns, holes, all_holes, term_from, terms_from}
use Rattle.tg_split.specs.Sizes.{most, all_nodes, size_of_lists, is_empty}
use Rattle.tg_split.specs.Listing.{Part, pattern, part, part_of, behind, added, extended, on_top, AreShapes}
use Rattle.tg_split.proofs.SizeLaws.{not_empty}
use Rattle.tg_split.proofs.CountLaws.{made_after, products_of_inputs}

-- ---- one more shape behind a row

abbrev snoc : Shapes → Shape → Shapes
snoc none s = more s none
snoc (more r ss) s = more r (snoc ss s)

abbrev all_snoc : List Shapes → List Shape → List Shapes
all_snoc [] shapes = []
all_snoc (ss ∷ sss) shapes = map (snoc ss) shapes ++ all_snoc sss shapes

snoc_more : (s : Shape) (ss : Shapes) (shapes : List Shape) → map (snoc (more s ss)) shapes ≡ map (more s) (map (snoc ss) shapes)
snoc_more s ss [] = refl
snoc_more s ss (t ∷ shapes) = ap (λ l. more s (snoc ss t) ∷ l) (snoc_more s ss shapes)

all_snoc_more : (s : Shape) (sss : List Shapes) (shapes : List Shape) → all_snoc (map (more s) sss) shapes ≡ map (more s) (all_snoc sss shapes)
all_snoc_more s [] shapes = refl
all_snoc_more s (ss ∷ sss) shapes =
    ap₂ (λ a b. a ++ b) (snoc_more s ss shapes) (all_snoc_more s sss shapes) ∙ sym (map-append (more s) (map (snoc ss) shapes) (all_snoc sss shapes))

all_snoc_both : (xs ys : List Shapes) (shapes : List Shape) → all_snoc (xs ++ ys) shapes ≡ all_snoc xs shapes ++ all_snoc ys shapes
all_snoc_both [] ys shapes = refl
all_snoc_both (x ∷ xs) ys shapes =
    ap (λ l. map (snoc x) shapes ++ l) (all_snoc_both xs ys shapes) ∙ sym (append_assoc (map (snoc x) shapes) (all_snoc xs shapes) (all_snoc ys shapes))

all_snoc_product : (ss : List Shape) (sss : List Shapes) (shapes : List Shape) → all_snoc (product ss sss) shapes ≡ product ss (all_snoc sss shapes)
all_snoc_product [] sss shapes = refl
all_snoc_product (s ∷ ss) sss shapes =
    all_snoc_both (map (more s) sss) (product ss sss) shapes ∙ ap₂ (λ a b. a ++ b) (all_snoc_more s sss shapes) (all_snoc_product ss sss shapes)

first_shapes : (shapes : List Shape) → product shapes (none ∷ []) ≡ all_snoc (none ∷ []) shapes
first_shapes [] = refl
first_shapes (s ∷ shapes) = ap (λ l. more s none ∷ l) (first_shapes shapes)

products_after : (f : model.Ty → List Shape) (ts : List model.Ty) (t : model.Ty) → products f (ts ++ t ∷ []) ≡ all_snoc (products f ts) (f t)
products_after f [] t = first_shapes (f t)
products_after f (u ∷ ts) t = ap (product (f u)) (products_after f ts t) ∙ sym (all_snoc_product (f u) (products f ts) (f t))

-- ---- the same as patterns

terms_after : (n : ℕ) (ss : Shapes) (s : Shape) → terms_from n (snoc ss s) ≡ behind (terms_from n ss) (term_from (n + length (all_holes ss)) s)
terms_after n none s = ap (λ m. one (term_from m s)) (let e : n ≡ n + 0 = omega arith in e)
terms_after n (more r ss) s =
    let sum = length-append (holes r) (all_holes ss) in
    let place : n + length (holes r) + length (all_holes ss) ≡ n + length (holes r ++ all_holes ss) = omega (arith, sum) in
    ap (tree.more (term_from n r))
    (terms_after (n + length (holes r)) ss s ∙ ap (λ m. behind (terms_from (n + length (holes r)) ss) (term_from m s)) place)

holes_after : (ss : Shapes) (s : Shape) → all_holes (snoc ss s) ≡ all_holes ss ++ holes s
holes_after none s = append-nil (holes s)
holes_after (more r ss) s = ap (λ l. holes r ++ l) (holes_after ss s) ∙ sym (append_assoc (holes r) (all_holes ss) (holes s))

pattern_after : (ss : Shapes) (s : Shape) → pattern_of (snoc ss s) ≡ added (pattern_of ss) s
pattern_after ss s = λ i. record { terms = terms_after 1 ss s i; variables = holes_after ss s i }

patterns_after : (ss : Shapes) (shapes : List Shape) → map pattern_of (map (snoc ss) shapes) ≡ map (added (pattern_of ss)) shapes
patterns_after ss [] = refl
patterns_after ss (s ∷ shapes) = ap₂ (λ (p : Pattern) l. p ∷ l) (pattern_after ss s) (patterns_after ss shapes)

all_patterns_after : (sss : List Shapes) (shapes : List Shape) → map pattern_of (all_snoc sss shapes) ≡ extended (map pattern_of sss) shapes
all_patterns_after [] shapes = refl
all_patterns_after (ss ∷ sss) shapes =
    map-append pattern_of (map (snoc ss) shapes) (all_snoc sss shapes) ∙ ap₂ (λ a b. a ++ b) (patterns_after ss shapes) (all_patterns_after sss shapes)

-- one more type is the fastest
pub rows_after : (f : model.Ty → List Shape) (ts : List model.Ty) (t : model.Ty)
    → map pattern_of (products f (ts ++ t ∷ [])) ≡ extended (map pattern_of (products f ts)) (f t)
rows_after f ts t = ap (map pattern_of) (products_after f ts t) ∙ all_patterns_after (products f ts) (f t)

pub extended_both : (xs ys : List Pattern) (shapes : List Shape) → extended (xs ++ ys) shapes ≡ extended xs shapes ++ extended ys shapes
extended_both [] ys shapes = refl
extended_both (x ∷ xs) ys shapes =
    ap (λ l. map (added x) shapes ++ l) (extended_both xs ys shapes) ∙ sym (append_assoc (map (added x) shapes) (extended xs shapes) (extended ys shapes))

-- one more row
pub rows_added : (rows : List declared.Pattern) (row : declared.Pattern) (shapes : List Shape)
    → extended (map pattern (rows ++ row ∷ [])) shapes ≡ extended (map pattern rows) shapes ++ map (added (pattern row)) shapes
rows_added rows row shapes =
    ap (λ l. extended l shapes) (map-append pattern rows (row ∷ [])) ∙ extended_both (map pattern rows) (pattern row ∷ []) shapes
    ∙ ap (λ l. extended (map pattern rows) shapes ++ l) (append-nil (map (added (pattern row)) shapes))

pub all_there : {A : Type 0} (P : A → Type 0) (xs : List A) (n : ℕ) (x : A) → All P xs → slice_get xs n ≡ Some x → P x
all_there P [] n x h e = absurd (none-some x e)
all_there P (y ∷ ys) zero x h e = subst P (same_Some y x e) (All-head P y ys h)
all_there P (y ∷ ys) (suc n) x h e = all_there P ys n x (All-tail P y ys h) e

behind_trees : (ts : List Tree) (t : Tree) → trees (ts ++ t ∷ []) ≡ behind (trees ts) t
behind_trees [] t = refl
behind_trees (u ∷ ts) t = ap (tree.more u) (behind_trees ts t)

-- a row with one more term and its variables
pub part_added : (p row : declared.Pattern) (t : Tree) (vars : List declared_types.Ty) (s : Shape)
    → p.terms ≡ row.terms ++ t ∷ [] → p.vars ≡ row.vars ++ vars → t ≡ term_from (1 + length row.vars) s → map ty vars ≡ holes s
    → pattern p ≡ added (pattern row) s
part_added p row t vars s terms types is are =
    let named = ap trees terms ∙ behind_trees row.terms t
    ∙ ap (behind (trees row.terms)) (is ∙ ap (λ n. term_from (1 + n) s) (sym (length-map row.vars ty))) in
    let typed = ap (map ty) types ∙ map-append ty row.vars vars ∙ ap (λ l. map ty row.vars ++ l) are in
    λ i. record { terms = named i; variables = typed i }

pub one_more_row : (row : declared.Pattern) (parts : List code.Part) (terms : List Tree) (shapes : List Shape) (place : ℕ) (x : code.Part) (t : Tree) (p : declared.Pattern)
    (out start : List Pattern) → place < length parts → map part parts ≡ map part_of shapes → terms ≡ map (term_from (1 + length row.vars)) shapes
    → slice_get parts place ≡ Some x → slice_get terms place ≡ Some t → p.terms ≡ row.terms ++ t ∷ [] → p.vars ≡ row.vars ++ x.vars
    → out ≡ start ++ map (added (pattern row)) (take place shapes)
    → out ++ pattern p ∷ [] ≡ start ++ map (added (pattern row)) (take (place + 1) shapes)
one_more_row row parts terms shapes place x t p out start low same numbered_on part_there term_there is_terms is_vars so_far =
    let n : ℕ = 1 + length row.vars in
    let count : length parts ≡ length shapes = sym (length-map parts part) ∙ ap length same ∙ length-map shapes part_of in
    let found = get_within shapes place (omega (arith, low, count)) in
    let s : Shape = found.0 in
    let of_shape : part_of s ≡ part x =
    same_Some (part_of s) (part x) (ap (option_map part_of) (sym found.1) ∙ sym (slice_get-map part_of shapes place) ∙ ap (λ l. slice_get l place) (sym same)
    ∙ slice_get-map part parts place ∙ ap (option_map part) part_there) in
    let of_term : t ≡ term_from n s =
    same_Some t (term_from n s) (sym term_there ∙ ap (λ l. slice_get l place) numbered_on ∙ slice_get-map (term_from n) shapes place ∙ ap (option_map (term_from n)) found.1) in
    let next : suc place ≡ place + 1 = omega arith in
    let step : take place shapes ++ s ∷ [] ≡ take (place + 1) shapes = sym (take_at shapes place s found.1) ∙ ap (λ m. take m shapes) next in
    ap₂ (λ (l : List Pattern) (q : Pattern). l ++ q ∷ []) so_far (part_added p row t x.vars s is_terms is_vars of_term (ap (λ q. q.1) (sym of_shape)))
    ∙ append_assoc start (map (added (pattern row)) (take place shapes)) (added (pattern row) s ∷ [])
    ∙ ap (λ l. start ++ l) (sym (map-append (added (pattern row)) (take place shapes) (s ∷ [])) ∙ ap (map (added (pattern row))) step)

-- ---- no row

pub no_lists : (sss : List Shapes) → is_empty (size_of_lists sss) ≡ true → sss ≡ []
no_lists [] e = refl
no_lists (ss ∷ sss) e = cc (sym (not_empty (length sss) (most all_nodes (ss ∷ sss))) ∙ e)

pub no_rows : (sss : List Shapes) → is_empty (size_of_lists sss) ≡ true → [] ≡ map pattern_of sss
no_rows sss e = ap (map pattern_of) (sym (no_lists sss e))

-- ---- holes

pub hole_of_nat : ((free 1, ty Nat ∷ []) ∷ []) ≡ map part_of (hole model.nat ∷ [])
hole_of_nat = ap (λ t. (free 1, t ∷ []) ∷ []) ty-Nat

pub hole_of_bool : ((free 1, ty Bool ∷ []) ∷ []) ≡ map part_of (hole model.bool ∷ [])
hole_of_bool = ap (λ t. (free 1, t ∷ []) ∷ []) ty-Bool

-- ---- constructors

on_tops : (c : ℕ) (sss : List Shapes) → map part_of (map (node c) sss) ≡ map (on_top c) (map pattern_of sss)
on_tops c [] = refl
on_tops c (ss ∷ sss) = ap (λ (l : List Part). (con c (terms_from 1 ss), all_holes ss) ∷ l) (on_tops c sss)

pub number_there : (c n j x : ℕ) → slice_get (numbers_from c n) j ≡ Some x → x ≡ c + j
number_there c zero j x e = absurd (none-some x e)
number_there c (suc n) zero x e = let same : c ≡ x = cc in omega (arith, same)
number_there c (suc n) (suc j) x e = let r = number_there (suc c) n j x e in omega (arith, r)

pub shapes_after : (f : model.Ty → List Shape) (c : ℕ) (xs : List (List model.Ty)) (ts : List model.Ty)
    → map part_of (of_constructors f c (xs ++ ts ∷ [])) ≡ map part_of (of_constructors f c xs) ++ map (on_top (c + length xs)) (map pattern_of (products f ts))
shapes_after f c xs ts =
    ap (map part_of) (made_after f c xs ts) ∙ map-append part_of (of_constructors f c xs) (map (node (c + length xs)) (products f ts))
    ∙ ap (λ l. map part_of (of_constructors f c xs) ++ l) (on_tops (c + length xs) (products f ts))

pub constructor_there : (f : model.Ty → List Shape) (us : List model.Ty) (n : ℕ) (cons : List ConDef) (place : ℕ) (x : ConDef) (number : ℕ) (shapes : List Part) (rows : List Pattern)
    → place < length cons → take place cons ++ x ∷ [] ≡ take (place + 1) cons → number ≡ n + place
    → rows ≡ map pattern_of (products f (map (instance us) (map ty x.args)))
    → shapes ≡ map part_of (of_constructors f n (map (λ (y : Constructor). map (instance us) y.arguments) (map constructor (take place cons))))
    → shapes ++ map (on_top number) rows
    ≡ map part_of (of_constructors f n (map (λ (y : Constructor). map (instance us) y.arguments) (map constructor (take (place + 1) cons))))
constructor_there f us n cons place x number shapes rows low step is made so_far =
    let at : Constructor → List model.Ty = λ y. map (instance us) y.arguments in
    let before_it : List (List model.Ty) = map at (map constructor (take place cons)) in
    let taken = length-take place cons in
    let count : length before_it ≡ place = length-map (map constructor (take place cons)) at ∙ length-map (take place cons) constructor ∙ (omega (arith, low, taken)) in
    let same : number ≡ n + length before_it = is ∙ ap (λ m. n + m) (sym count) in
    ap₂ (λ a b. a ++ b) so_far (ap₂ (λ m l. map (on_top m) l) same made)
    ∙ sym (shapes_after f n before_it (at (constructor x)))
    ∙ ap (λ l. map part_of (of_constructors f n l))
    (sym (map-append at (map constructor (take place cons)) (constructor x ∷ [])) ∙ ap (map at) (sym (map-append constructor (take place cons) (x ∷ [])) ∙ ap (map constructor) step))

pub shapes_in_scope : (ds : List Datatype) (k : ℕ) (d : ℕ) (ts : Bor (List declared_types.Ty)) (outer : Bor Scope) (def : DataDef) (cons : List ConDef) (numbers : List ℕ) (shapes : List Part)
    → numbered ds d ≡ Some (datatype def) → cons ≡ def.cons → numbers ≡ constructor_numbers ds d → AreShapes ds k (arguments (Inside ts outer)) numbers (map constructor cons) shapes
    → shapes ≡ map part_of (of_type ds (suc k) (model.applied d (model.tys (within ts.now outer.now))))
shapes_in_scope ds k d ts outer def cons numbers shapes is same nums made =
    let us : List model.Ty = within ts.now outer.now in
    let at : List model.Ty → Constructor → List model.Ty = λ l (c : Constructor). map (instance l) c.arguments in
    let f = of_type ds k in
    let c = first_constructor ds d in
    let all : numbers ≡ numbers_from c (length (map constructor cons)) =
    nums ∙ ap (λ (o : Option Datatype). option_map_or (λ (x : Datatype). numbers_from c (length x.constructors)) o []) is ∙ ap (λ l. numbers_from c (length (map constructor l))) (sym same) in
    made c all
    ∙ ap₂ (λ l xs. map part_of (of_constructors f c (map (at l) (map constructor xs)))) (arguments-Within ts outer) same
    ∙ ap (λ (o : Option Datatype). map part_of (of_constructors f c (option_map_or (λ (y : Datatype). map (at us) y.constructors) o []))) (sym is)
    ∙ ap (λ l. map part_of (of_constructors f c (arguments_at ds d l))) (sym (elements-tys us))

-- ---- the inputs

pub patterns_of_inputs : (th : Theory) (k : ℕ) → IsAccepted th
    → map pattern_of (products (of_type th.datatypes k) (map (instance (arguments Closed)) th.program.inputs)) ≡ patterns th k
patterns_of_inputs th k accepted = ap (map pattern_of) (products_of_inputs th k accepted)

-- ---- parts of the program

pub ruleset mapping = (map-append)

pub ruleset listing = (rows_after, hole_of_nat, hole_of_bool, no_rows)
