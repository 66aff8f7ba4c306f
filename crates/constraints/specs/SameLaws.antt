-- What `==` says of keys is the test of the views, and these tests are equivalences.
use Rattle.std.specs.Prelude.{◌≡◌, List, Decides, refl}
use Rattle.std.proofs.Common.{sym, ap, subst}
use Rattle.std.proofs.lemmas.Bool.{false≢true}
use Rattle.std.specs.Cmp.{IsEquivalence, and_equiv, on_equiv, bool_eq_equiv}
use Rattle.std.specs.Cmp.Lexicographic.{lists_equiv, nat_list_eq_equiv, pointwise_decides, bytes_decides}
use Rattle.bounded.specs.View.{list_of}
use Rattle.bounded.specs.Pointwise.{pointwise_map}
use Rattle.constraints.specs.contracts.constraints.ConstraintPartialEq.TheImpl as key
use Rattle.constraints.specs.contracts.constraints.ConstraintsPartialEq.TheImpl as keys
use Rattle.constraints.specs.declared.constraints.Constraint.{Constraint}
use Rattle.constraints.specs.declared.constraints.Constraint.TheVariants.{PrimaryKey, Unique}
use Rattle.constraints.specs.declared.constraints.Constraints.{Constraints}
use Rattle.constraints.specs.Keys.{Key, primary_key, unique_key, key_columns}
use Rattle.constraints.specs.Same.{is_primary, same_key, same_keys}
use Rattle.constraints.specs.View.{key_of, keys_of}

pub same_key_equiv : IsEquivalence same_key
same_key_equiv = and_equiv (on_equiv is_primary bool_eq_equiv) (on_equiv key_columns nat_list_eq_equiv)

pub same_keys_equiv : IsEquivalence same_keys
same_keys_equiv = lists_equiv same_key_equiv

pub same_key_decides : (a b : Key) → Decides (same_key a b) (a ≡ b)
same_key_decides (primary_key ds) (primary_key bs) =
    let one = bytes_decides ds bs in ((λ e. ap primary_key (one.0 e)), λ e. one.1 (ap key_columns e))
same_key_decides (primary_key ds) (unique_key bs) = ((λ e. absurd (false≢true e)), λ e. cc)
same_key_decides (unique_key ds) (primary_key bs) = ((λ e. absurd (false≢true e)), λ e. cc)
same_key_decides (unique_key ds) (unique_key bs) =
    let one = bytes_decides ds bs in ((λ e. ap unique_key (one.0 e)), λ e. one.1 (ap key_columns e))

pub same_keys_decides : (ks ls : List Key) → Decides (same_keys ks ls) (ks ≡ ls)
same_keys_decides = pointwise_decides same_key_decides

pub key_eq : (a b : Constraint) → key.ghosts.eq a b ≡ same_key (key_of a) (key_of b)
key_eq (PrimaryKey a) (PrimaryKey b) = refl
key_eq (PrimaryKey a) (Unique b) = refl
key_eq (Unique a) (PrimaryKey b) = refl
key_eq (Unique a) (Unique b) = refl

pub keys_eq : (a b : Constraints) → keys.ghosts.eq a b ≡ same_keys (keys_of a) (keys_of b)
keys_eq a b = pointwise_map key.ghosts.eq same_key key_of key_eq (list_of a.inner) (list_of b.inner)

pub keys_decide : (a b : Constraints) → Decides (keys.ghosts.eq a b) (keys_of a ≡ keys_of b)
keys_decide a b = subst (λ r. Decides r (keys_of a ≡ keys_of b)) (sym (keys_eq a b)) (same_keys_decides (keys_of a) (keys_of b))
