-- Worked examples of the bodies, by computation (BODY, PACKET).
use Rattle.std.specs.Prelude.{ℕ, ◌≡◌, refl, Bool, true, false, List, [], ◌∷◌, ◌++◌, replicate, Result, Ok, Err}
use Rattle.hns_encoding.specs.Bytes.{le, be_from, all_zero}
use Rattle.hns_encoding.specs.declared.decoder.DecodeError.TheVariants.{UnexpectedEnd, TrailingBytes}
use Rattle.hnsr_body.specs.declared.error.HnsrInvalid.TheVariants.{ContextZero, OpenParameters}
use Rattle.hnsr_body.specs.declared.error.HnsrInvalid.TheVariants.{AcceptResponse, CircuitZero, DataSize}
use Rattle.hnsr_body.specs.declared.error.HnsrInvalid.TheVariants.{WindowCredit, DiagnosticDetail, NotUtf8}
use Rattle.hnsr_body.specs.declared.error.HnsrProtocolError.TheVariants.{Decode, Invalid, TooLarge}
use Rattle.hnsr_body.specs.declared.error.HnsrProtocolError.{HnsrProtocolError}
use Rattle.hnsr_body.specs.Utf8.{utf8, utf8_1, utf8_2, utf8_3, utf8_4}
use Rattle.hnsr_body.specs.Layout.{walked, laid_out}
use Rattle.hnsr_body.specs.Open.{open_fields, open_good, decode_open}
use Rattle.hnsr_body.specs.Accept.{accept_good, opened_fields, decode_opened}
use Rattle.hnsr_body.specs.Data.{data_checked, window_fields, decode_window}
use Rattle.hnsr_body.specs.Detail.{reason_detail, decode_detail}
use Rattle.hnsr_body.specs.Packet.{packet_checked}

-- the answers, with every definition open
unfoldable pub open_answer : Bool → List ℕ → Result Unit HnsrProtocolError
unfolding walked laid_out open_fields open_good decode_open all_zero le be_from
open_answer key body = (decode_open key body).result

unfoldable pub opened_answer : List ℕ → Result Unit HnsrProtocolError
unfolding walked laid_out opened_fields accept_good decode_opened all_zero le be_from
opened_answer body = (decode_opened body).result

unfoldable pub window_answer : List ℕ → Result Unit HnsrProtocolError
unfolding walked laid_out window_fields decode_window le
window_answer body = (decode_window body).result

unfoldable pub detail_answer : List ℕ → Result Unit HnsrProtocolError
unfolding walked reason_detail decode_detail le utf8 utf8_1 utf8_2 utf8_3 utf8_4
detail_answer body = (decode_detail body).result

-- ---- BODY.3: early ends
pub open_102 : open_answer true (replicate 102 1) ≡ Err (Decode (UnexpectedEnd 99 1))
unfolding open_answer
open_102 = refl

pub open_10 : open_answer true (replicate 10 1) ≡ Err (Decode (UnexpectedEnd 0 22))
unfolding open_answer
open_10 = refl

-- BODY.4: the layout before the values
pub open_104 : open_answer false (replicate 104 0) ≡ Err (Decode (TrailingBytes 1))
unfolding open_answer
open_104 = refl

pub open_values : open_answer true (replicate 103 0) ≡ Err (Invalid OpenParameters)
unfolding open_answer
open_values = refl

-- a body of ones has the window 0x01010101: over 1,048,576
pub open_window : open_answer true (replicate 103 1) ≡ Err (Invalid OpenParameters)
unfolding open_answer
open_window = refl

pub open_good_lem : open_answer true (replicate 99 1 ++ (0 ∷ 64 ∷ 0 ∷ 0 ∷ [])) ≡ Ok tt
unfolding open_answer
open_good_lem = refl

pub open_key : open_answer false (replicate 99 1 ++ (0 ∷ 64 ∷ 0 ∷ 0 ∷ [])) ≡ Err (Invalid OpenParameters)
unfolding open_answer
open_key = refl

-- ---- OPENED: the circuit id is tested first
pub opened-zero : opened_answer (replicate 28 0) ≡ Err (Invalid CircuitZero)
unfolding opened_answer
opened-zero = refl

pub opened-window : opened_answer (replicate 8 1 ++ replicate 20 0) ≡ Err (Invalid AcceptResponse)
unfolding opened_answer
opened-window = refl

-- ---- WINDOW: 1 to 1,048,576
pub window-most : window_answer (0 ∷ 0 ∷ 16 ∷ 0 ∷ []) ≡ Ok tt
unfolding window_answer
window-most = refl

pub window-over : window_answer (1 ∷ 0 ∷ 16 ∷ 0 ∷ []) ≡ Err (Invalid WindowCredit)
unfolding window_answer
window-over = refl

-- ---- ERROR: any reason (BODY.14); the length is asked before the text (BODY.13)
pub error-any-reason : detail_answer (0xFF ∷ 0xFF ∷ 0 ∷ []) ≡ Ok tt
unfolding detail_answer
error-any-reason = refl

pub error-two : detail_answer (1 ∷ 0 ∷ []) ≡ Err (Decode (UnexpectedEnd 2 1))
unfolding detail_answer
error-two = refl

pub error-length : detail_answer (1 ∷ 0 ∷ 3 ∷ 0xC0 ∷ 0x80 ∷ []) ≡ Err (Invalid DiagnosticDetail)
unfolding detail_answer
error-length = refl

pub error_129 : detail_answer (1 ∷ 0 ∷ 129 ∷ replicate 129 65) ≡ Err (Invalid DiagnosticDetail)
unfolding detail_answer
error_129 = refl

pub error_overlong : detail_answer (1 ∷ 0 ∷ 2 ∷ 0xC0 ∷ 0x80 ∷ []) ≡ Err (Invalid NotUtf8)
unfolding detail_answer
error_overlong = refl

-- ---- DATA: 1 to 16,384 bytes; a packet: its size before its context, which only opcode 6 may leave zero
pub data_none : data_checked 0 ≡ Err (Invalid DataSize)
unfolding data_checked
data_none = refl

pub packet_large : packet_checked 17 0 65524 ≡ Err (TooLarge 65536 65535)
unfolding packet_checked
packet_large = refl

pub packet-zero : packet_checked 17 0 65523 ≡ Err (Invalid ContextZero)
unfolding packet_checked
packet-zero = refl

pub packet_sample_lem : packet_checked 6 0 65523 ≡ Ok tt
unfolding packet_checked
packet_sample_lem = refl
