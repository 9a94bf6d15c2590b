-- The bytes of the lines.
use Rattle.std.proofs.Common.{◌≡◌, ◌<◌, ◌≤◌, ◌+◌, ◌-◌, ℕ, suc, IsTrue, List, [], ◌∷◌, ◌++◌, length, take, get_or, decimal, Bool, true, false, ◌&&◌, if◌then◌else◌, Option, Some, None, Result, refl, ap, sym, subst, ◌∙◌, arith, append_assoc}
use Rattle.std.specs.Prelude.{◌/◌, ◌%◌, OnOk, codes, nat_le}
use Rattle.std.specs.Char.{is_ascii}
use Rattle.std.specs.List.{list_all}
use Rattle.std.specs.Str.{IsAscii}
use Rattle.std.proofs.Math.Utf8.{encodes, encode}
use Rattle.std.proofs.lemmas.Str.{encodes-append, encodes-IsAscii, encode_ascii}
use Rattle.std.proofs.lemmas.List.{append-nil, take_more}
use Rattle.std.proofs.lemmas.Bool.Decides.{nat_tests}
use Rattle.bqn_base.specs.declared.fault.Fault.{Fault}
use Rattle.bqn_base.specs.declared.fault.Fault.TheVariants.{Assert}
use Rattle.bqn_base.specs.declared.place.Place.{Place}
use Rattle.bqn_base.specs.declared.refusal.Refusal.{Refusal}
use Rattle.bqn_base.specs.Printed.{line, counted_lines, line_and_column, far_place_text, place_text, error_place, fault_name, fault_message, shown_message, error_line, refusal_text, refusal_line}
use Rattle.bqn_format.specs.declared.lines.Where.{Where}
use Rattle.bqn_format.specs.declared.lines.Where.TheVariants as where_is
use Rattle.bqn_format.specs.Texts.{where_text}

encodes-fault_name : (fault : Fault) → encodes (fault_name fault) ≡ fault_name fault
unfolding encode
encodes-fault_name (Assert message) = refl
encodes-fault_name _ = refl

pub encodes-number : (number : ℕ) → IsAscii (decimal number) → decimal number ≡ encodes (decimal number)
encodes-number number h = sym (encodes-IsAscii (decimal number) h)

pub ruleset number_laws = (encodes-number)

encodes-line : (front name rest : List ℕ) → encodes front ≡ front → encodes name ≡ name → ((front ++ name) ++ encodes rest) ++ encode 10 ≡ encodes (line (front ++ name ++ rest))
encodes-line front name rest e f = simp (encodes-append, append_assoc, append-nil, e, f)

encodes-parts : (front name place rest : List ℕ) → encodes front ≡ front → encodes name ≡ name → (((front ++ name) ++ encodes place) ++ encodes rest) ++ encode 10 ≡ encodes (line (front ++ name ++ place ++ rest))
encodes-parts front name place rest e f = simp (encodes-append, append_assoc, append-nil, e, f)

pub encodes-error_line : (fault : Fault) (place : Option Place) (name message : List ℕ) → name ≡ fault_name fault → shown_message message ≡ fault_message fault → (((codes "Error: " ++ name) ++ encodes (error_place place)) ++ encodes (shown_message message)) ++ encode 10 ≡ encodes (error_line fault place)
unfolding encode
encodes-error_line fault place name message e f = rw (e, f) (encodes-parts (codes "Error: ") (fault_name fault) (error_place place) (fault_message fault) refl (encodes-fault_name fault))

pub ruleset error_laws = (encodes-error_line)

below-128 : (c : ℕ) (more : Bool) → IsTrue (is_ascii c && more) → (c < 128) × IsTrue more
below-128 c more h = grind (arith, nat_tests)

encodes-ascii : (bytes : List ℕ) → IsTrue (list_all is_ascii bytes) → encodes bytes ≡ bytes
encodes-ascii [] h = refl
encodes-ascii (c ∷ cs) h =
    let both = below-128 c (list_all is_ascii cs) h in
    rw (encode_ascii c both.0, encodes-ascii cs both.1) refl

pub encodes-refusal_line : (refusal : Refusal) (name : List ℕ) (place : Where) → IsTrue (list_all is_ascii name) → refusal_text refusal ≡ name ++ where_text place → ((codes "Refused: " ++ name) ++ encodes (where_text place)) ++ encode 10 ≡ encodes (refusal_line refusal)
unfolding encode
encodes-refusal_line refusal name place h e = encodes-line (codes "Refused: ") name (where_text place) refl (encodes-ascii name h) ∙ ap (λ (text : List ℕ). encodes (line (codes "Refused: " ++ text))) (sym e)

pub ruleset refusal_laws = (encodes-refusal_line)

pub encodes-nowhere : (old : List ℕ) → old ≡ old ++ encodes (where_text where_is.Nowhere)
encodes-nowhere old = sym (append-nil old)

pub encodes-byte : (old : List ℕ) (at : ℕ) → (old ++ codes " at byte ") ++ encodes (decimal at) ≡ old ++ encodes (where_text (where_is.Byte at))
unfolding encode
encodes-byte old at = append_assoc old (codes " at byte ") (encodes (decimal at))

pub encodes-place : (old : List ℕ) (place : Place) → (old ++ encode 32) ++ encodes (place_text place) ≡ old ++ encodes (where_text (where_is.Place place))
encodes-place old place = append_assoc old (encode 32) (encodes (place_text place))

pub encodes-no_place : (old : List ℕ) → old ≡ old ++ encodes (error_place None)
encodes-no_place old = sym (append-nil old)

pub encodes-error_place : (old : List ℕ) (place : Place) → (old ++ codes " at ") ++ encodes (place_text place) ≡ old ++ encodes (error_place (Some place))
unfolding encode
encodes-error_place old place = append_assoc old (codes " at ") (encodes (place_text place))

pub ruleset where_laws = (encodes-nowhere, encodes-byte, encodes-place, encodes-no_place, encodes-error_place)

pub encodes-line_and_column : (old : List ℕ) (line column : ℕ) → ((old ++ encodes (decimal line)) ++ encode 58) ++ encodes (decimal column) ≡ old ++ encodes (line_and_column line column)
encodes-line_and_column old line column = simp (append_assoc, encodes-append)

-- the line that is counted on from there
pub encodes-far_place : (old : List ℕ) (line counted column : ℕ) → counted ≡ (line - 1) % counted_lines + 1 → (((old ++ encode 35) ++ encodes (decimal ((line - 1) / counted_lines))) ++ encode 32) ++ encodes (line_and_column counted column) ≡ old ++ encodes (far_place_text line column)
encodes-far_place old line counted column e =
    let at : counted ≡ suc ((line - 1) % counted_lines) = omega arith in
    ap (λ (l : ℕ). (((old ++ encode 35) ++ encodes (decimal ((line - 1) / counted_lines))) ++ encode 32) ++ encodes (line_and_column l column)) at
    ∙ simp (append_assoc, encodes-append)

abbrev place_if : Bool → Place → List ℕ
place_if is_near place = if is_near then line_and_column place.line place.column else far_place_text place.line place.column

module _ {A E : Type 0} (result : Result A E) (new old : List ℕ) (place : Place) where
  pub near-place : place.line ≤ counted_lines → OnOk result (new ≡ old ++ encodes (line_and_column place.line place.column)) → OnOk result (new ≡ old ++ encodes (place_text place))
  near-place near h =
      let n : nat_le place.line counted_lines ≡ true = grind (arith, nat_tests) in
      subst (λ (text : List ℕ). OnOk result (new ≡ old ++ encodes text)) (sym (ap (λ (b : Bool). place_if b place) n)) h

  pub far-place : counted_lines < place.line → OnOk result (new ≡ old ++ encodes (far_place_text place.line place.column)) → OnOk result (new ≡ old ++ encodes (place_text place))
  far-place far h =
      let n : nat_le place.line counted_lines ≡ false = grind (arith, nat_tests) in
      subst (λ (text : List ℕ). OnOk result (new ≡ old ++ encodes text)) (sym (ap (λ (b : Bool). place_if b place) n)) h

pub ruleset place_laws = (encodes-line_and_column, encodes-far_place, near-place, far-place)

pub encodes-more : (old message : List ℕ) (i c : ℕ) → i < length message → c ≡ get_or message i c → (old ++ encodes (take i message)) ++ encode c ≡ old ++ encodes (take (i + 1) message)
encodes-more old message i c h e = rw (take_more message i c) (simp (encodes-append, append_assoc, append-nil, ← e) refl)

pub ruleset message_laws = (encodes-nowhere, encodes-more)
