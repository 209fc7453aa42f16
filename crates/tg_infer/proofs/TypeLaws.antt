-- What the meaning of a type leans on.
use Rattle.std.proofs.Common.{ℕ, suc, ◌≡◌, ◌+◌, List, [], ◌∷◌, ◌++◌, map, drop, Option, Some, None, refl, sym, ◌∙◌, ap, arith}
use Rattle.std.specs.Prelude.{option_map, option_and_then, slice_get}
use Rattle.std.proofs.lemmas.List.{map-append}
use Rattle.tg_model.specs.Types as model
use Rattle.tg_model.specs.Types.{Tys, tys}
use Rattle.tg_accept.specs.Meaning.{type_meant, all_types_meant}
use Rattle.tg_grammar.specs.declared.types.RawTy.{RawTy}
use Rattle.tg_types.specs.declared.types.Ty.{Ty}
use Rattle.tg_types.specs.Types.{ty, types, ty-Nat, ty-Bool, ty-Param, ty-App}
use Rattle.tg_term.proofs.PartLaws.{drop_at}
use Rattle.tg_infer.specs.View.{raw_type, raw_types, raw_type-Nat, raw_type-Bool, raw_type-Var, raw_type-Word}

abbrev pub Names : Type 0
Names = List (List ℕ)

-- types in front of others
abbrev pub before : List model.Ty → Tys → Tys
before [] us = us
before (t ∷ ts) us = model.more t (before ts us)

before_none : (ts : List model.Ty) → before ts model.none ≡ tys ts
before_none [] = refl
before_none (t ∷ ts) = ap (model.more t) (before_none ts)

before_more : (ts : List model.Ty) (u : model.Ty) (us : Tys) → before ts (model.more u us) ≡ before (ts ++ u ∷ []) us
before_more [] u us = refl
before_more (t ∷ ts) u us = ap (model.more t) (before_more ts u us)

-- `all` are the meanings of the types before the rest
pub record Stands (params names : Names) (ts : List RawTy) (all : List Ty) (rest : List RawTy) : Type 0 where
  pub is : all_types_meant params names (raw_types ts) ≡ option_map (before (map ty all)) (all_types_meant params names (raw_types rest))

pub stands_first : (params names : Names) (ts : List RawTy) → Stands params names ts [] ts
stands_first params names ts = record { is = same (all_types_meant params names (raw_types ts)) }
  where
    same : (o : Option Tys) → o ≡ option_map (before []) o
    same None = refl
    same (Some us) = refl

after_more : (all : List model.Ty) (u : model.Ty) (o : Option Tys) → option_map (before all) (option_map (model.more u) o) ≡ option_map (before (all ++ u ∷ [])) o
after_more all u None = refl
after_more all u (Some us) = ap Some (before_more all u us)

next_meant : (params names : Names) (ts : List RawTy) (i : ℕ) (t : RawTy) → slice_get ts i ≡ Some t
    → all_types_meant params names (raw_types (drop i ts))
    ≡ option_and_then (λ u. option_map (model.more u) (all_types_meant params names (raw_types (drop (i + 1) ts)))) (type_meant params names (raw_type t))
next_meant params names ts i t e = ap (λ l. all_types_meant params names (raw_types l)) (drop_at ts i t e ∙ ap (λ n. t ∷ drop n ts) (let s : suc i ≡ i + 1 = omega arith in s))

pub stands_next : (params names : Names) (ts : List RawTy) (all all' : List Ty) (i : ℕ) (t : RawTy) (u : Ty) → slice_get ts i ≡ Some t
    → Stands params names ts all (drop i ts) → Some (ty u) ≡ type_meant params names (raw_type t) → all' ≡ all ++ u ∷ []
    → Stands params names ts all' (drop (i + 1) ts)
stands_next params names ts all all' i t u at h e more = record {
  is =
      h.is ∙ ap (option_map (before (map ty all))) (next_meant params names ts i t at)
      ∙ ap (λ o. option_map (before (map ty all)) (option_and_then (λ w. option_map (model.more w) (all_types_meant params names (raw_types (drop (i + 1) ts)))) o)) (sym e)
      ∙ after_more (map ty all) (ty u) (all_types_meant params names (raw_types (drop (i + 1) ts)))
      ∙ ap (λ l. option_map (before l) (all_types_meant params names (raw_types (drop (i + 1) ts)))) (sym (ap (map ty) more ∙ map-append ty all (u ∷ [])));
}

pub stands_none : (params names : Names) (ts : List RawTy) (all : List Ty) (i : ℕ) (t : RawTy) → slice_get ts i ≡ Some t
    → Stands params names ts all (drop i ts) → None ≡ type_meant params names (raw_type t) → None ≡ all_types_meant params names (raw_types ts)
stands_none params names ts all i t at h e =
    sym (h.is ∙ ap (option_map (before (map ty all))) (next_meant params names ts i t at)
    ∙ ap (λ o. option_map (before (map ty all)) (option_and_then (λ w. option_map (model.more w) (all_types_meant params names (raw_types (drop (i + 1) ts)))) o)) (sym e))

pub stands_last : (params names : Names) (ts : List RawTy) (all : List Ty) → Stands params names ts all [] → Some (types all) ≡ all_types_meant params names (raw_types ts)
stands_last params names ts all h = sym (h.is ∙ ap Some (before_none (map ty all)))

pub ruleset meaning = (stands_first, stands_next, stands_none, stands_last, ty-Nat, ty-Bool, ty-Param, ty-App, raw_type-Nat, raw_type-Bool, raw_type-Var, raw_type-Word)
