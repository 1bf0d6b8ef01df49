use Rattle.std.proofs.Common.{◌≡◌, ◌≢◌, ℕ, List, ◌∷◌, ◌++◌, refl, sym, ap, ◌∙◌, subst, arith, append_assoc, length-append, inl, inr}
use Rattle.std.proofs.lemmas.List.{take-append-le}
use Rattle.std.specs.List.{flat_map}
use Rattle.svid_replay.specs.declared.flaw.Flaw.{Flaw}
use Rattle.svid_wire.specs.BatchText.{head_text}
use Rattle.svid_wire.specs.Versions.{magic_of, use_text}
use Rattle.svid_wire.specs.declared.version.Version.TheVariants.{Two}
use Rattle.svid_wire.specs.WireFault.{IsFaultFor, IsFieldFault, IsFieldRefusal, IsUseFault, IsUseKindFault, IsKindFault, IsCountFault}
use Rattle.svid_wire.specs.declared.reason.Reason.{Reason}
use Rattle.svid_wire.specs.declared.reason.Reason.TheVariants as reason
use Rattle.svid_wire.specs.declared.wire_fault.WireFault.{WireFault}

-- a list in parts stays so when more follows its last part
grown : (bytes front last more : List ℕ) → bytes ≡ front ++ last → bytes ++ more ≡ front ++ (last ++ more)
grown bytes front last more parts = ap (λ x. x ++ more) parts ∙ append_assoc front last more

IsUseFault-append : (bytes more : List ℕ) (offset : ℕ) (f : Flaw) → IsUseFault bytes offset f → IsUseFault (bytes ++ more) offset f
IsUseFault-append bytes more offset f h = record {
  version = h.version;
  moment = h.moment;
  count = h.count;
  uses = h.uses;
  bad = h.bad;
  begun = h.begun;
  fields = h.fields;
  tells = h.tells;
  flawed = h.flawed;
  at = h.at;
  after = h.after ++ more;
  parts = grown bytes (head_text h.version h.moment h.count) _ more h.parts ∙ ap (λ x. head_text h.version h.moment h.count ++ x) (append_assoc (flat_map (use_text h.version) h.uses) _ more ∙ ap (λ x. flat_map (use_text h.version) h.uses ++ x) (append_assoc (use_text h.version h.bad) h.after more));
}

IsUseKindFault-append : (bytes more : List ℕ) (offset : ℕ) → IsUseKindFault bytes offset → IsUseKindFault (bytes ++ more) offset
IsUseKindFault-append bytes more offset h = record {
  moment = h.moment;
  count = h.count;
  uses = h.uses;
  front = h.front;
  kind = h.kind;
  begun = h.begun;
  size = h.size;
  no_use = h.no_use;
  no_withdrawal = h.no_withdrawal;
  at = h.at;
  after = h.after ++ more;
  parts = grown bytes (head_text Two h.moment h.count) _ more h.parts ∙ ap (λ x. head_text Two h.moment h.count ++ x) (append_assoc (flat_map (use_text Two) h.uses) _ more ∙ ap (λ x. flat_map (use_text Two) h.uses ++ x) (append_assoc h.front (h.kind ∷ h.after) more));
}

IsKindFault-append : (bytes more : List ℕ) → IsKindFault bytes → IsKindFault (bytes ++ more)
IsKindFault-append bytes more h = record {
  version = h.version;
  kind = h.kind;
  no_batch = h.no_batch;
  no_summary = h.no_summary;
  after = h.after ++ more;
  parts = grown bytes (magic_of h.version) _ more h.parts;
}

IsCountFault-append : (bytes more : List ℕ) → IsCountFault bytes → IsCountFault (bytes ++ more)
IsCountFault-append bytes more h = record {
  version = h.version;
  moment = h.moment;
  count = h.count;
  moment_fits = h.moment_fits;
  count_fits = h.count_fits;
  many = h.many;
  after = h.after ++ more;
  parts = grown bytes (head_text h.version h.moment h.count) _ more h.parts;
}

IsFaultFor-append : (r : Reason) (bytes more : List ℕ) (offset : ℕ) → IsFaultFor r bytes offset → r ≢ reason.Truncated → IsFaultFor r (bytes ++ more) offset
IsFaultFor-append reason.Magic bytes more offset (at, long, bad) _ =
    (at, omega (arith, length-append bytes more), λ v. subst (λ (x : List ℕ). x ≢ magic_of v) (sym (take-append-le 4 bytes more long)) (bad v))
IsFaultFor-append reason.Kind bytes more offset (at, h) _ = (at, IsKindFault-append bytes more h)
IsFaultFor-append reason.Count bytes more offset (at, h) _ = (at, IsCountFault-append bytes more h)
IsFaultFor-append reason.UseKind bytes more offset h _ = IsUseKindFault-append bytes more offset h
IsFaultFor-append reason.UseExpired bytes more offset h _ = IsUseFault-append bytes more offset _ h
IsFaultFor-append reason.UseFuture bytes more offset h _ = IsUseFault-append bytes more offset _ h
IsFaultFor-append reason.UseOrder bytes more offset h _ = IsUseFault-append bytes more offset _ h
IsFaultFor-append reason.Truncated bytes more offset h ne = absurd (ne refl)
IsFaultFor-append reason.OutOfMemory bytes more offset h _ = h
IsFaultFor-append reason.Failed bytes more offset h _ = h

-- a bad field stays bad when bytes follow
pub IsFieldFault-append : (bytes more : List ℕ) (fault : WireFault) → IsFieldFault bytes fault → IsFieldFault (bytes ++ more) fault
IsFieldFault-append bytes more fault (h, early) = (IsFaultFor-append fault.reason bytes more fault.offset h early, early)

-- what is refused stays refused when bytes follow
pub IsFieldRefusal-append : (bytes front more : List ℕ) (fault : WireFault) → bytes ≡ front ++ more → IsFieldRefusal front fault → IsFieldRefusal bytes fault
IsFieldRefusal-append bytes front more fault parts (inl bad) =
    inl (subst (λ (x : List ℕ). IsFieldFault x fault) (sym parts) (IsFieldFault-append front more fault bad))
IsFieldRefusal-append bytes front more fault parts (inr none) = inr none
