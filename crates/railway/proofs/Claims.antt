-- A record's number, by the first of its rows and because numbers tell refusals apart. An accepted record's lookups, by
-- the bytes of its links: a byte that says an end is that end's, and joins are returned. Assumes nothing.
use Prim.Native.Nat.{ℕ}
use mathlib.Core.Path.{◌≡◌, refl, sym, ◌∙◌, ap}
use mathlib.Core.Logic.{inl, inr}
use native.Mathlib.Omega.{arith}
use lib.ListN.{get_or}
use mathlib.Core.Option.{none, some}
use Rattle.railway.specs.declared.End.{End}
use Rattle.railway.specs.Joined.{Joined, Nothing, With}
use Rattle.railway.specs.declared.Railway.{Railway}
use Rattle.railway.specs.Ends.{end_index, end_at}
use Rattle.railway.specs.Record.{no_link, joined_by, joined, legs_of, train_of}
use Rattle.railway.specs.Refusals.{number_of}
use Rattle.railway.specs.Rows.{record_rows, record_refusal}
use Rattle.railway.specs.Same.{SameByte}
use Rattle.railway.specs.Claims.{RecordNumbers, EndBytes, JoinOf, AcceptedLookedUp, NoneAlike}
use Rattle.railway.proofs.Ends.{index-one, index_below, index-end, numbered_of}
use Rattle.railway.proofs.Bytes.{byte_past, byte-back, byte_of}
use Rattle.railway.proofs.Lookups.{joined-there}
use Rattle.railway.proofs.Rows.{Accepted, accepted-facts, known-numbered, joined-link, joined-known}
use Rattle.railway.proofs.Rows.{joined_back}
use Rattle.railway.proofs.Refusals.{given-exactly, first-none, none_first, number-one, number-tells, rank-place}

pub record-numbers : RecordNumbers
unfolding record_refusal
record-numbers =
    record {
      given = λ r f.
          let h = given-exactly (record_rows r) f in
          (λ e. h.0 (number-tells (record_refusal r) (some f) e), λ w. ap number_of (h.1 w));
      accepted = λ r. (
        λ e. first-none (record_rows r) (number-tells (record_refusal r) none e),
        λ h. ap number_of (none_first (record_rows r) h),
      );
      one = number-one;
      ranked = rank-place;
    }

-- BYTES
pub end-bytes : EndBytes
end-bytes =
    record {
      below = index_below;
      own = index-one;
      back = byte-back;
      taken = λ b h. let e = index-end b h in (end_at b, numbered_of (end_at b) (omega arith), e);
      others = byte_past;
      written = omega arith;
    }

-- THE LOOKUP
apart : (e : End) (j : Joined) → j ≡ Nothing → j ≡ With e → ⊥
apart e j p q = let z : ◌≡◌ {A = ℕ} 0 1 = cc in omega arith

module _ (r : Railway) (w : Accepted r) where
  byte-joined : (e f : End) → joined r e ≡ With f → get_or r.links (end_index e) no_link ≡ end_index f
  byte-joined e f h = byte_of (get_or r.links (end_index e) no_link) f (joined-link r e f h).1

  join-there : (e f : End) → joined r e ≡ With f → JoinOf r e f
  join-there e f h =
      let k = joined-known r w e f h in
      record {
        one-there = k.0;
        other-there = k.1;
        forth = byte-joined e f h;
        back = byte-joined f e (joined_back r w e f h);
      }

  join-found : (e f : End) → JoinOf r e f → joined r e ≡ With f
  join-found e f j =
      sym (joined-there r e (end_index e) refl (index_below e (known-numbered r w e j.one-there)))
      ∙ ap joined_by j.forth ∙ byte-back f (known-numbered r w f j.other-there)

  none-there : (e : End) (j : Joined) → joined r e ≡ j → ((f : End) → JoinOf r e f → ⊥) → j ≡ Nothing
  none-there e Nothing h n = refl
  none-there e (With f) h n = absurd (n f (join-there e f h))

pub accepted-looked-up : AcceptedLookedUp
accepted-looked-up r a =
    let w = accepted-facts r a in
    record {
      other = λ e f. (join-there r w e f, join-found r w e f);
      returned = joined_back r w;
      unjoined =
          λ e. (λ h f j. apart f (joined r e) h (join-found r w e f j), λ n. none-there r w e (joined r e) refl n);
    }

-- NO JOIN
same_byte : (a b : ℕ) → SameByte a b → joined_by a ≡ joined_by b
same_byte a b (inl e) = ap joined_by e
same_byte a b (inr h) = byte_past a h.0 ∙ sym (byte_past b h.1)

pub none_alike : NoneAlike
unfolding legs_of train_of
none_alike r q s =
    record {
      sections = s.sections;
      points = s.points;
      trains = s.trains;
      legs = λ n h. rw (s.points, s.legs);
      joins = λ i h. same_byte (get_or r.links i no_link) (get_or q.links i no_link) (s.links i h);
      signals = λ i h. rw s.signals;
      closed = λ x h. rw s.closed;
      roster = λ t h. rw (s.trains, s.roster);
    }
