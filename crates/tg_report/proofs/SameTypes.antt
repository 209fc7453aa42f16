-- Closed types that read as one type are equal.
use Rattle.std.proofs.Common.{◌≡◌, List, ◌∷◌, refl, ap, ◌∙◌}
use Rattle.tg_model.specs.Theory.{Theory, IsClosed, AreClosed}
use Rattle.tg_model.specs.Types as types
use Rattle.tg_model.specs.Types.{Ty, Tys}
use Rattle.tg_model.specs.Accepted.{IsAccepted}
use Rattle.tg_grammar.specs.declared.types.RawTy.{RawTy}
use Rattle.tg_report.specs.Names.{datatype_name}
use Rattle.tg_report.specs.RawTypes.{raw_ty, raw_tys}
use Rattle.tg_report.proofs.NamePlaces.{one_type}
use Rattle.tg_report.proofs.RawParts.{word_arguments, word_name}

pub first_type : (a b : RawTy) (xs ys : List RawTy) → a ∷ xs ≡ b ∷ ys → a ≡ b
first_type a b xs ys e = cc

pub other_types : (a b : RawTy) (xs ys : List RawTy) → a ∷ xs ≡ b ∷ ys → xs ≡ ys
other_types a b xs ys e = cc

mutual
  pub one_ty : (th : Theory) (t u : Ty) → IsAccepted th → IsClosed th t → IsClosed th u → raw_ty th t ≡ raw_ty th u → t ≡ u
  one_ty th types.nat types.nat a h k e = refl
  one_ty th types.bool types.bool a h k e = refl
  one_ty th (types.applied c ts) (types.applied d us) a ((x, p, n), hs) ((y, q, m), ks) e =
      let head = one_type th c d x y a p q (word_name (datatype_name th c) (datatype_name th d) (raw_tys th ts) (raw_tys th us) e) in
      let rest = all_tys th ts us a hs ks (word_arguments (datatype_name th c) (datatype_name th d) (raw_tys th ts) (raw_tys th us) e) in
      ap (λ z. types.applied z ts) head ∙ ap (types.applied d) rest
  one_ty th (types.parameter n) u a h k e = absurd h
  one_ty th (types.meta n) u a h k e = absurd h
  one_ty th t (types.parameter n) a h k e = absurd k
  one_ty th t (types.meta n) a h k e = absurd k
  one_ty th t u a h k e = absurd cc

  all_tys : (th : Theory) (ts us : Tys) → IsAccepted th → AreClosed th ts → AreClosed th us → raw_tys th ts ≡ raw_tys th us → ts ≡ us
  all_tys th types.none types.none a h k e = refl
  all_tys th types.none (types.more u us) a h k e = absurd cc
  all_tys th (types.more t ts) types.none a h k e = absurd cc
  all_tys th (types.more t ts) (types.more u us) a (h, hs) (k, ks) e =
      let head = one_ty th t u a h k (first_type (raw_ty th t) (raw_ty th u) (raw_tys th ts) (raw_tys th us) e) in
      let rest = all_tys th ts us a hs ks (other_types (raw_ty th t) (raw_ty th u) (raw_tys th ts) (raw_tys th us) e) in
      ap (λ z. types.more z ts) head ∙ ap (types.more u) rest
