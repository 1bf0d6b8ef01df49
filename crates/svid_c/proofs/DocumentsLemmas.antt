-- Documents that are cut off the bytes of all, one after the other.
use Rattle.std.proofs.Common.{◌≡◌, ◌+◌, ◌<◌, ℕ, List, [], ◌∷◌, ◌++◌, length, take, drop, get_or, Some, refl, sym, ap, ◌∙◌, arith, length-append, length-drop}
use Rattle.std.specs.Prelude.{IsUtf8}
use Rattle.std.specs.List.{slice_get, sum_by}
use Rattle.std.proofs.lemmas.List.{append_assoc, drop_more}
use Rattle.std.proofs.lemmas.List.Sums.{sum_by-cons}
use Rattle.svid_documents.specs.Document.{DocumentData}
use Rattle.svid_documents.specs.declared.join_fault.JoinFault.{JoinFault}
use Rattle.svid_c.specs.Documents.{IsNotJoined, behind, document_of, documents_in, length_of, names_in, no_name, unreadable}
use Rattle.svid_c.specs.declared.bundles_join.SvidDocument.{SvidDocument}

-- so many documents are cut off, and the rest of the bytes has the others
pub record IsCutSoFar (bytes : List ℕ) (documents : List SvidDocument) (cut : List DocumentData) (rest : List ℕ) (i : ℕ) : Type 0 where
  pub sooner : List (List ℕ)
  pub parts : documents_in bytes documents ≡ cut ++ documents_in rest (drop i documents)
  pub named : names_in bytes documents ≡ sooner ++ names_in rest (drop i documents)
  pub counted : length sooner ≡ i
  pub left : length rest ≡ sum_by length_of (drop i documents)

-- the next document has its length among those that are left
pub has_next : (bytes : List ℕ) (documents : List SvidDocument) (cut : List DocumentData) (rest : List ℕ) (i : ℕ) (d0 : SvidDocument)
    → i < length documents → IsCutSoFar bytes documents cut rest i → length_of (get_or documents i d0) + sum_by length_of (drop (i + 1) documents) ≡ length rest
has_next bytes documents cut rest i d0 within so_far =
    sym (so_far.left ∙ ap (sum_by length_of) (drop_more documents i d0 within) ∙ sum_by-cons length_of (get_or documents i d0) (drop (i + 1) documents))

-- one more document is cut off
pub one_more : (bytes : List ℕ) (documents : List SvidDocument) (cut new : List DocumentData) (rest name text others later : List ℕ) (i : ℕ) (d0 : SvidDocument)
    → i < length documents → IsCutSoFar bytes documents cut rest i
    → name ≡ take (get_or documents i d0).name_len rest → others ≡ drop (get_or documents i d0).name_len rest
    → text ≡ take (get_or documents i d0).text_len others → later ≡ drop (get_or documents i d0).text_len others
    → new ≡ cut ++ document_of (get_or documents i d0) name text ∷ [] → IsCutSoFar bytes documents new later (i + 1)
one_more bytes documents cut new rest name text others later i d0 within so_far is_name is_rest is_text is_later added =
    let d = get_or documents i d0 in
    let next = drop_more documents i d0 within in
    let ds = drop (i + 1) documents in
    let is_text_of : text ≡ take d.text_len (drop d.name_len rest) = is_text ∙ ap (take d.text_len) is_rest in
    let is_behind : later ≡ behind d rest = is_later ∙ ap (drop d.text_len) is_rest in
    record {
      sooner = so_far.sooner ++ take d.name_len rest ∷ [];
      parts = so_far.parts ∙ ap (λ xs. cut ++ documents_in rest xs) next
          ∙ sym (append_assoc cut (document_of d (take d.name_len rest) (take d.text_len (drop d.name_len rest)) ∷ []) (documents_in (behind d rest) ds))
          ∙ ap (λ one. (cut ++ one ∷ []) ++ documents_in (behind d rest) ds)
          (ap (λ n. document_of d n (take d.text_len (drop d.name_len rest))) (sym is_name) ∙ ap (document_of d name) (sym is_text_of))
          ∙ ap (λ c. c ++ documents_in (behind d rest) ds) (sym added)
          ∙ ap (λ b. new ++ documents_in b ds) (sym is_behind);
      named = so_far.named ∙ ap (λ xs. so_far.sooner ++ names_in rest xs) next
          ∙ sym (append_assoc so_far.sooner (take d.name_len rest ∷ []) (names_in (behind d rest) ds))
          ∙ ap (λ b. (so_far.sooner ++ take d.name_len rest ∷ []) ++ names_in b ds) (sym is_behind);
      counted = length-append so_far.sooner (take d.name_len rest ∷ []) ∙ ap (λ n. n + 1) so_far.counted;
      left = omega (arith, has_next bytes documents cut rest i d0 within so_far, ap length is_behind, length-drop d.text_len (drop d.name_len rest), length-drop d.name_len rest);
    }

at_end : (sooner : List (List ℕ)) (name : List ℕ) (later : List (List ℕ)) → slice_get (sooner ++ name ∷ later) (length sooner) ≡ Some name
at_end [] name later = refl
at_end (x ∷ xs) name later = at_end xs name later

-- a name that is not UTF-8 is why documents are not joined
pub is_unreadable : (bytes : List ℕ) (documents : List SvidDocument) (cut : List DocumentData) (rest name : List ℕ) (i : ℕ) (d0 : SvidDocument) (given : JoinFault)
    → i < length documents → IsCutSoFar bytes documents cut rest i → name ≡ take (get_or documents i d0).name_len rest → ¬ IsUtf8 name
    → given ≡ no_name (i + 1) → IsNotJoined bytes documents given
is_unreadable bytes documents cut rest name i d0 given within so_far is_name bad is =
    let d = get_or documents i d0 in
    let all : names_in bytes documents ≡ so_far.sooner ++ take d.name_len rest ∷ names_in (behind d rest) (drop (i + 1) documents) =
    so_far.named ∙ ap (λ xs. so_far.sooner ++ names_in rest xs) (drop_more documents i d0 within) in
    unreadable i name
    (ap (λ names. slice_get names i) all
    ∙ ap (slice_get (so_far.sooner ++ take d.name_len rest ∷ names_in (behind d rest) (drop (i + 1) documents))) (sym so_far.counted)
    ∙ at_end so_far.sooner (take d.name_len rest) (names_in (behind d rest) (drop (i + 1) documents)) ∙ ap Some (sym is_name))
    bad is
