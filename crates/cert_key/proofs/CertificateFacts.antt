-- The bytes of a certificate are read as that certificate, and what is read has these bytes.
use Rattle.std.proofs.Common.{◌≡◌, ℕ, ◌^◌, ◌<◌, cond, eqb, List, [], ◌++◌, length, Option, Some, None, refl, sym, ap, ◌∙◌, arith, ℤ}
use Rattle.std.specs.Prelude.{IfSome, IsSomeAnd}
use Rattle.std.proofs.lemmas.Bool.{eqb-true}
use Rattle.std.proofs.lemmas.List.{append-nil, nil_from_length}
use Rattle.cert_key.specs.declared.certificate.CertParts.{CertParts}
use Rattle.cert_key.specs.Der.{element}
use Rattle.cert_key.specs.Moment.{IsTime, moment_of, time, unix_seconds}
use Rattle.cert_key.specs.Certificate.{Certificate, version_field, fields, spelling, IsSpelled, Parts, lent_parts, parts_of}
use Rattle.cert_key.specs.Inside.Reading.{◌>>=◌, IsReadAs, Found, field_at}
use Rattle.cert_key.specs.Inside.Times.{times_at}
use Rattle.cert_key.specs.Inside.Whole.{rest_after, after_version, fields_at, certificate_at}
use Rattle.cert_key.proofs.StepFacts.{bind_some, if_some, same_some, some_of, IsBytes}
use Rattle.cert_key.proofs.ElementFacts.{field_takes, field_again, field_other, short_content, short_rest}
use Rattle.cert_key.proofs.TimeFacts.{times_take, times_again}

-- ---- the version

pub record VersionTakes (bytes : List ℕ) (version : Option (List ℕ)) : Type 0 where
  pub parts : bytes ≡ version_field version ++ after_version bytes
  pub fits : IsBytes (after_version bytes)

version_found : (bytes : List ℕ) (o : Option Found) → IsBytes bytes → field_at 160 bytes ≡ o
    → (version : Option (List ℕ)) × (bytes ≡ version_field version ++ rest_after bytes o) × IsBytes (rest_after bytes o)
version_found bytes None fits e = (None, refl, fits)
version_found bytes (Some v) fits e =
    let t = field_takes 160 bytes v fits e in
    (Some v.content, t.parts, t.after_fits)

pub version_takes : (bytes : List ℕ) → IsBytes bytes → (version : Option (List ℕ)) × VersionTakes bytes version
unfolding after_version
version_takes bytes fits =
    let v = version_found bytes (field_at 160 bytes) fits refl in
    (v.0, record { parts = v.1; fits = v.2 })

pub version_again : (version : Option (List ℕ)) (serial rest : List ℕ)
    → length (version_field version ++ (element 2 serial ++ rest)) < 2 ^ 24
    → after_version (version_field version ++ (element 2 serial ++ rest)) ≡ element 2 serial ++ rest
unfolding after_version
version_again None serial rest short =
    rw (field_other 160 2 serial rest refl (short_content 2 serial rest short)) refl
version_again (Some content) serial rest short =
    rw (field_again 160 content (element 2 serial ++ rest) (short_content 160 content (element 2 serial ++ rest) short)) refl

-- ---- the fields

eight_parts : (v s g i d n k more bytes r0 r1 r2 r3 r4 r5 : List ℕ)
    → bytes ≡ v ++ r0 → r0 ≡ s ++ r1 → r1 ≡ g ++ r2 → r2 ≡ i ++ r3 → r3 ≡ d ++ r4 → r4 ≡ n ++ r5 → r5 ≡ k ++ more
    → bytes ≡ v ++ (s ++ (g ++ (i ++ (d ++ (n ++ (k ++ more))))))
eight_parts v s g i d n k more bytes r0 r1 r2 r3 r4 r5 h0 h1 h2 h3 h4 h5 h6 = cc

abbrev pub parts_with : List ℕ → List ℕ → ℤ × ℤ → Parts
parts_with public_key subject times =
    record { public_key = public_key; subject = subject; not_before = times.0; not_after = times.1 }

same_parts : (p : Parts) (key subject key_text subject_text : List ℕ) (z times : ℤ × ℤ)
    → some_of (parts_with key subject z) ≡ some_of p → key ≡ key_text → subject ≡ subject_text → z ≡ times
    → p ≡ parts_with key_text subject_text times
same_parts p key subject key_text subject_text z times e h k l =
    sym (same_some (parts_with key subject z) p e) ∙ ap (λ (x : List ℕ). parts_with x subject z) h
    ∙ ap (λ (x : List ℕ). parts_with key_text x z) k ∙ ap (λ (x : ℤ × ℤ). parts_with key_text subject_text x) l

-- a certificate whose fields these are
pub record FieldsTake (bytes signed : List ℕ) (p : Parts) (c : Certificate) : Type 0 where
  pub all : bytes ≡ fields c
  pub signed_is : c.signed ≡ signed
  pub not_before : IsTime c.not_before
  pub not_after : IsTime c.not_after
  pub parts : p ≡ parts_of c

pub fields_take : (bytes signed : List ℕ) (p : Parts) → IsBytes bytes → fields_at bytes ≡ Some p
    → (c : Certificate) × FieldsTake bytes signed p c
unfolding fields_at fields
fields_take bytes signed p fits e =
    let s = bind_some (field_at 2 (after_version bytes)) (λ serial_number. field_at 48 serial_number.after
    >>= λ signature. field_at 48 signature.after >>= λ issuer. field_at 48 issuer.after >>= λ validity. times_at validity.content
    >>= λ times. field_at 48 validity.after >>= λ subject. field_at 48 subject.after
    >>= λ public_key. Some (parts_with public_key.whole subject.whole times)) p e in
    let g = bind_some (field_at 48 s.0.after) (λ signature. field_at 48 signature.after >>= λ issuer. field_at 48 issuer.after
    >>= λ validity. times_at validity.content >>= λ times. field_at 48 validity.after >>= λ subject. field_at 48 subject.after
    >>= λ public_key. Some (parts_with public_key.whole subject.whole times)) p s.2 in
    let i = bind_some (field_at 48 g.0.after) (λ issuer. field_at 48 issuer.after >>= λ validity. times_at validity.content
    >>= λ times. field_at 48 validity.after >>= λ subject. field_at 48 subject.after
    >>= λ public_key. Some (parts_with public_key.whole subject.whole times)) p g.2 in
    let d = bind_some (field_at 48 i.0.after) (λ validity. times_at validity.content >>= λ times. field_at 48 validity.after
    >>= λ subject. field_at 48 subject.after >>= λ public_key. Some (parts_with public_key.whole subject.whole times)) p i.2 in
    let z = bind_some (times_at d.0.content) (λ times. field_at 48 d.0.after >>= λ subject. field_at 48 subject.after
    >>= λ public_key. Some (parts_with public_key.whole subject.whole times)) p d.2 in
    let n = bind_some (field_at 48 d.0.after) (λ subject. field_at 48 subject.after
    >>= λ public_key. Some (parts_with public_key.whole subject.whole z.0)) p z.2 in
    let k = bind_some (field_at 48 n.0.after) (λ public_key. Some (parts_with public_key.whole n.0.whole z.0)) p n.2 in
    let tv = version_takes bytes fits in
    let ts = field_takes 2 (after_version bytes) s.0 tv.1.fits s.1 in
    let tg = field_takes 48 s.0.after g.0 ts.after_fits g.1 in
    let ti = field_takes 48 g.0.after i.0 tg.after_fits i.1 in
    let td = field_takes 48 i.0.after d.0 ti.after_fits d.1 in
    let tz = times_take d.0.content z.0 td.content_fits z.1 in
    let tn = field_takes 48 d.0.after n.0 td.after_fits n.1 in
    let tk = field_takes 48 n.0.after k.0 tn.after_fits k.1 in (
      record {
        version = tv.0;
        serial_number = s.0.content;
        signature = g.0.content;
        issuer = i.0.content;
        not_before = tz.0;
        not_after = tz.1;
        subject = n.0.content;
        public_key = k.0.content;
        extensions = k.0.after;
        signed = signed;
      },
      record {
        all = eight_parts (version_field tv.0) (element 2 s.0.content) (element 48 g.0.content) (element 48 i.0.content) (element 48
            (time tz.0 ++ time tz.1)) (element 48 n.0.content) (element 48 k.0.content) k.0.after bytes
            (after_version bytes) s.0.after g.0.after i.0.after d.0.after n.0.after
            tv.1.parts ts.parts tg.parts ti.parts (td.parts ∙ ap (λ (x : List ℕ). element 48 x ++ d.0.after) tz.2.parts) tn.parts tk.parts;
        signed_is = refl;
        not_before = tz.2.first;
        not_after = tz.2.second;
        parts = same_parts p k.0.whole n.0.whole (element 48 k.0.content) (element 48 n.0.content) z.0 (
          unix_seconds (moment_of tz.0),
          unix_seconds
              (moment_of tz.1),
        ) k.2 tk.whole tn.whole tz.2.seconds;
      },
    )

-- what is after the version, field by field
abbrev after_issuer : Certificate → List ℕ
after_issuer c =
    element 48 (time c.not_before ++ time c.not_after) ++ (element 48 c.subject ++ (element 48 c.public_key ++ c.extensions))

abbrev after_serial : Certificate → List ℕ
after_serial c = element 48 c.signature ++ (element 48 c.issuer ++ after_issuer c)

pub fields_again : (c : Certificate) → length (fields c) < 2 ^ 24 → IsTime c.not_before → IsTime c.not_after
    → fields_at (fields c) ≡ Some (parts_of c)
unfolding fields_at fields
fields_again c short not_before not_after =
    let l0 = short_rest (version_field c.version) (element 2 c.serial_number ++ after_serial c) short in
    let l1 = short_rest (element 2 c.serial_number) (after_serial c) l0 in
    let l2 = short_rest (element 48 c.signature) (element 48 c.issuer ++ after_issuer c) l1 in
    let l3 = short_rest (element 48 c.issuer) (after_issuer c) l2 in
    let l4 = short_rest (element 48 (time c.not_before ++ time c.not_after)) (element 48 c.subject ++ (element 48 c.public_key ++ c.extensions)) l3 in
    let l5 = short_rest (element 48 c.subject) (element 48 c.public_key ++ c.extensions) l4 in
    rw (
      version_again c.version c.serial_number (after_serial c) short,
      field_again 2 c.serial_number (after_serial c) (short_content 2 c.serial_number (after_serial c) l0),
      field_again 48 c.signature (element 48 c.issuer ++ after_issuer c) (short_content 48 c.signature (element 48 c.issuer ++ after_issuer c) l1),
      field_again 48 c.issuer (after_issuer c) (short_content 48 c.issuer (after_issuer c) l2),
      field_again 48 (time c.not_before ++ time c.not_after) (element 48 c.subject ++ (element 48 c.public_key ++ c.extensions)) (short_content 48
          (time c.not_before ++ time c.not_after) (element 48 c.subject ++ (element 48 c.public_key ++ c.extensions)) l3),
      times_again c.not_before c.not_after not_before not_after,
      field_again 48 c.subject (element 48 c.public_key ++ c.extensions) (short_content 48 c.subject (element 48 c.public_key ++ c.extensions) l4),
      field_again 48 c.public_key c.extensions (short_content 48 c.public_key c.extensions l5),
    ) refl

-- ---- the certificate

pub certificate_takes : (bytes : List ℕ) (p : Parts) → IsBytes bytes → certificate_at bytes ≡ Some p
    → (c : Certificate) × IsSpelled c bytes × (p ≡ parts_of c)
unfolding certificate_at
certificate_takes bytes p fits e =
    let a = bind_some (field_at 48 bytes) (λ certificate. field_at 48 certificate.content
    >>= λ signed. cond (eqb (length certificate.after) 0) (fields_at signed.content) None) p e in
    let b = bind_some (field_at 48 a.0.content) (λ signed. cond (eqb (length a.0.after) 0) (fields_at signed.content) None) p a.2 in
    let g = if_some (eqb (length a.0.after) 0) (fields_at b.0.content) p b.2 in
    let ta = field_takes 48 bytes a.0 fits a.1 in
    let tb = field_takes 48 a.0.content b.0 ta.content_fits b.1 in
    let t = fields_take b.0.content b.0.after p tb.content_fits g.1 in
    let inside : a.0.content ≡ element 48 (fields t.0) ++ t.0.signed =
    tb.parts ∙ ap (λ (x : List ℕ). element 48 x ++ b.0.after) t.1.all ∙ ap (λ (x : List ℕ). element 48 (fields t.0) ++ x) (sym t.1.signed_is) in
    let short : length (element 48 (fields t.0) ++ t.0.signed) < 2 ^ 24 = omega (arith, ap length inside, ta.short) in (
      t.0,
      record {
        all = ta.parts ∙ ap (λ (x : List ℕ). element 48 a.0.content ++ x) (nil_from_length a.0.after (eqb-true (length a.0.after) 0 g.0))
            ∙ append-nil (element 48 a.0.content) ∙ ap (λ (x : List ℕ). element 48 x) inside;
        short = short;
        not_before = t.1.not_before;
        not_after = t.1.not_after;
      },
      t.1.parts,
    )

pub certificate_again : (c : Certificate) (bytes : List ℕ) → IsSpelled c bytes → certificate_at bytes ≡ Some (parts_of c)
unfolding certificate_at
certificate_again c bytes h =
    let whole : bytes ≡ spelling c ++ [] = h.all ∙ sym (append-nil (spelling c)) in
    let inner = short_content 48 (fields c) c.signed h.short in
    ap certificate_at whole
    ∙ rw (field_again 48 (element 48 (fields c) ++ c.signed) [] h.short, field_again 48 (fields c) c.signed inner)
    (fields_again c inner h.not_before h.not_after)

-- ---- what the program returns

pub is_found : (bytes : List ℕ) (o : Option CertParts) → IsBytes bytes → IsReadAs lent_parts o (certificate_at bytes)
    → IfSome o (λ p. (c : Certificate) × IsSpelled c bytes × (lent_parts p ≡ parts_of c))
is_found bytes (Some p) fits given = certificate_takes bytes (lent_parts p) fits given
is_found bytes None fits given = tt

pub is_only : (bytes : List ℕ) (o : Option CertParts) (c : Certificate) → IsSpelled c bytes → IsReadAs lent_parts o (certificate_at bytes)
    → IsSomeAnd o (λ p. lent_parts p ≡ parts_of c)
is_only bytes (Some p) c spelled given =
    same_some (lent_parts p) (parts_of c) (sym given ∙ certificate_again c bytes spelled)
is_only bytes None c spelled given =
    let none : Some (parts_of c) ≡ None = sym (certificate_again c bytes spelled) ∙ given in
    absurd cc
