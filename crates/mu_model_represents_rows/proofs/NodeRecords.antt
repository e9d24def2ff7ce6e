-- Records that are a node's.
use Rattle.std.proofs.Common.{ℕ, zero, suc, [], ◌∷◌, ◌++◌, refl, inl, inr, arith}
use Rattle.mu_model_flash.specs.Bits.{part_of}
use Rattle.mu_model_record.specs.declared.BankState.TheVariants.{Empty}
use Rattle.mu_model_record.specs.Record.{zeros, entry_of, IsFilling}
use Rattle.mu_model_represents_rows.specs.NodeRecords.{NodeRecords, digest, first, second, record_of}

none_other_ttl : (b : ℕ) → IsFilling (entry_of (record_of 2 (first ∷ Empty ∷ Empty ∷ Empty ∷ []) ((zeros 64) ++ ((3 ∷ 0 ∷ 0 ∷ 7 ∷ []) ++ (zeros 40 ++ (0 ∷ 0 ∷ zeros 1682))))) b) → ⊥
none_other_ttl zero h = h
none_other_ttl (suc zero) h = h
none_other_ttl (suc (suc zero)) h = h
none_other_ttl (suc (suc (suc zero))) h = h
none_other_ttl (suc (suc (suc (suc b)))) h = h

none_last_ttl : (b : ℕ) → IsFilling (entry_of (record_of 2 (first ∷ Empty ∷ Empty ∷ Empty ∷ []) ((zeros 64) ++ ((1 ∷ 0 ∷ 0 ∷ 0xff ∷ []) ++ (zeros 40 ++ zeros 1684)))) b) → ⊥
none_last_ttl zero h = h
none_last_ttl (suc zero) h = h
none_last_ttl (suc (suc zero)) h = h
none_last_ttl (suc (suc (suc zero))) h = h
none_last_ttl (suc (suc (suc (suc b)))) h = h

none_least : (b : ℕ) → IsFilling (entry_of (record_of 2 (first ∷ Empty ∷ Empty ∷ Empty ∷ []) (((0x01 ∷ 0 ∷ 0 ∷ 0 ∷ 0 ∷ 0 ∷ 0 ∷ 0 ∷ 0 ∷ 0 ∷ 0 ∷ 0 ∷ 1 ∷ 0 ∷ 0 ∷ 0 ∷ 0 ∷ 0 ∷ 1 ∷ 0 ∷ []) ++ zeros 44) ++ ((3 ∷ 0 ∷ 2 ∷ 0 ∷ []) ++ (((1 ∷ 0 ∷ 0 ∷ 0 ∷ 2 ∷ 0 ∷ 0 ∷ 0 ∷ []) ++ digest) ++ (0 ∷ 0 ∷ zeros 1682))))) b) → ⊥
none_least zero h = h
none_least (suc zero) h = h
none_least (suc (suc zero)) h = h
none_least (suc (suc (suc zero))) h = h
none_least (suc (suc (suc (suc b)))) h = h

none_refused : (b : ℕ) → IsFilling (entry_of (record_of 2 (first ∷ Empty ∷ Empty ∷ Empty ∷ []) (((0x01 ∷ 0 ∷ 0 ∷ 0 ∷ 7 ∷ 0 ∷ 0 ∷ 0 ∷ 0 ∷ 0 ∷ 0 ∷ 0 ∷ 3 ∷ 0 ∷ 0 ∷ 0 ∷ 0 ∷ 0 ∷ 1 ∷ 0 ∷ []) ++ zeros 44) ++ ((3 ∷ 0 ∷ 5 ∷ 5 ∷ []) ++ (((3 ∷ 0 ∷ 0 ∷ 0 ∷ 2 ∷ 0 ∷ 0 ∷ 0 ∷ []) ++ digest) ++ (0 ∷ 0 ∷ zeros 1682))))) b) → ⊥
none_refused zero h = h
none_refused (suc zero) h = h
none_refused (suc (suc zero)) h = h
none_refused (suc (suc (suc zero))) h = h
none_refused (suc (suc (suc (suc b)))) h = h

none_old_job : (b : ℕ) → IsFilling (entry_of (record_of 2 (first ∷ Empty ∷ Empty ∷ Empty ∷ []) (((0x01 ∷ 0 ∷ 0 ∷ 0 ∷ 7 ∷ 0 ∷ 0 ∷ 0 ∷ 0 ∷ 0 ∷ 0 ∷ 0 ∷ 3 ∷ 0 ∷ 0 ∷ 0 ∷ 0 ∷ 0 ∷ 1 ∷ 0 ∷ []) ++ zeros 44) ++ ((1 ∷ 0 ∷ 2 ∷ 5 ∷ []) ++ (((3 ∷ 0 ∷ 0 ∷ 0 ∷ 2 ∷ 0 ∷ 0 ∷ 0 ∷ []) ++ digest) ++ zeros 1684)))) b) → ⊥
none_old_job zero h = h
none_old_job (suc zero) h = h
none_old_job (suc (suc zero)) h = h
none_old_job (suc (suc (suc zero))) h = h
none_old_job (suc (suc (suc (suc b)))) h = h

none_pair : (b : ℕ) → IsFilling (entry_of (record_of 3 (first ∷ second ∷ Empty ∷ Empty ∷ []) ((zeros 64) ++ ((3 ∷ 0 ∷ 0 ∷ 9 ∷ []) ++ (zeros 40 ++ (1 ∷ 0 ∷ zeros 1682))))) b) → ⊥
none_pair zero h = h
none_pair (suc zero) h = h
none_pair (suc (suc zero)) h = h
none_pair (suc (suc (suc zero))) h = h
none_pair (suc (suc (suc (suc b)))) h = h

none_pair_first : (b : ℕ) → IsFilling (entry_of (record_of 3 (first ∷ second ∷ Empty ∷ Empty ∷ []) (((0x01 ∷ 0 ∷ 0 ∷ 0 ∷ 7 ∷ 0 ∷ 0 ∷ 0 ∷ 0 ∷ 0 ∷ 0 ∷ 0 ∷ 3 ∷ 0 ∷ 0 ∷ 0 ∷ 0 ∷ 0 ∷ 2 ∷ 0 ∷ []) ++ zeros 44) ++ ((3 ∷ 0 ∷ 2 ∷ 5 ∷ []) ++ (((3 ∷ 0 ∷ 0 ∷ 0 ∷ 2 ∷ 0 ∷ 0 ∷ 0 ∷ []) ++ digest) ++ (1 ∷ 0 ∷ zeros 1682))))) b) → ⊥
none_pair_first zero h = h
none_pair_first (suc zero) h = h
none_pair_first (suc (suc zero)) h = h
none_pair_first (suc (suc (suc zero))) h = h
none_pair_first (suc (suc (suc (suc b)))) h = h

none_pair_second : (b : ℕ) → IsFilling (entry_of (record_of 3 (first ∷ second ∷ Empty ∷ Empty ∷ []) (((0x01 ∷ 0 ∷ 0 ∷ 0 ∷ 7 ∷ 0 ∷ 0 ∷ 0 ∷ 0 ∷ 0 ∷ 0 ∷ 0 ∷ 3 ∷ 0 ∷ 0 ∷ 0 ∷ 0 ∷ 0 ∷ 2 ∷ 0 ∷ []) ++ zeros 44) ++ ((3 ∷ 0 ∷ 2 ∷ 5 ∷ []) ++ (((3 ∷ 0 ∷ 0 ∷ 0 ∷ 6 ∷ 0 ∷ 0 ∷ 0 ∷ []) ++ digest) ++ (1 ∷ 1 ∷ zeros 1682))))) b) → ⊥
none_pair_second zero h = h
none_pair_second (suc zero) h = h
none_pair_second (suc (suc zero)) h = h
none_pair_second (suc (suc (suc zero))) h = h
none_pair_second (suc (suc (suc (suc b)))) h = h

pub node_records : NodeRecords
unfolding part_of zeros
node_records = record {
  other_ttl = record {
    blob = record { octets = refl; rules = (λ b. none_other_ttl b) };
    note_octets = record { one_more = refl; spells = inl (record { kind_at_0 = refl; active_at_1_44 = (refl, refl); job_at_2 = record { no_phase_at_2 = refl; no_metadata_at_4 = refl }; index_at_45 = refl; zero_at_46 = refl }) };
    active_differ = (refl, tt);
    active_sealed = (tt, tt);
    job = tt;
  };
  last_ttl = record {
    blob = record { octets = refl; rules = (λ b. none_last_ttl b) };
    note_octets = record { one_more = refl; spells = inr (record { kind_at_0 = refl; active_at_1 = refl; job_at_2 = record { no_phase_at_2 = refl; no_metadata_at_4 = refl }; index_0 = refl; zero_at_44 = refl }) };
    active_differ = (refl, tt);
    active_sealed = (tt, tt);
    job = tt;
  };
  least = record {
    blob = record { octets = record { there_at_0 = refl; parameters = record { no_mode_at_1 = refl; no_mtu_at_2 = refl; no_log_at_19 = refl }; id_at_4 = refl; size_at_12 = refl; base_at_16 = refl; bank_at_18 = refl; zero_at_20 = refl }; rules = record { size_least = omega arith; size_most = omega arith; bank = omega arith; goes_with = (λ b. none_least b) } };
    note_octets = record { one_more = refl; spells = inl (record { kind_at_0 = refl; active_at_1_44 = (refl, refl); job_at_2 = record { phase_at_2 = refl; ttl_at_3 = refl; metadata_at_4 = refl }; index_at_45 = refl; zero_at_46 = refl }) };
    active_differ = (refl, tt);
    active_sealed = (tt, tt);
    job = record { bank = refl; size = refl; newer = omega arith; stored = tt };
  };
  most = record {
    blob = record { octets = record { there_at_0 = refl; parameters = record { mode_at_1 = refl; mode_least = omega arith; mode_most = omega arith; mtu_at_2 = refl; mtu_least = omega arith; log_at_19 = refl; same_size = refl }; id_at_4 = refl; size_at_12 = refl; base_at_16 = refl; bank_at_18 = refl; zero_at_20 = refl }; rules = record { size_least = omega arith; size_most = omega arith; bank = omega arith; goes_with = (refl, refl) } };
    note_octets = record { one_more = refl; spells = inl (record { kind_at_0 = refl; active_at_1_44 = (refl, refl); job_at_2 = record { phase_at_2 = refl; ttl_at_3 = refl; metadata_at_4 = refl }; index_at_45 = refl; zero_at_46 = refl }) };
    active_differ = (refl, tt);
    active_sealed = (tt, tt);
    job = record { bank = refl; size = refl; newer = omega arith; stored = tt };
  };
  least_parameters = record {
    blob = record { octets = record { there_at_0 = refl; parameters = record { mode_at_1 = refl; mode_least = omega arith; mode_most = omega arith; mtu_at_2 = refl; mtu_least = omega arith; log_at_19 = refl; same_size = refl }; id_at_4 = refl; size_at_12 = refl; base_at_16 = refl; bank_at_18 = refl; zero_at_20 = refl }; rules = record { size_least = omega arith; size_most = omega arith; bank = omega arith; goes_with = (refl, refl) } };
    note_octets = record { one_more = refl; spells = inl (record { kind_at_0 = refl; active_at_1_44 = (refl, refl); job_at_2 = record { phase_at_2 = refl; ttl_at_3 = refl; metadata_at_4 = refl }; index_at_45 = refl; zero_at_46 = refl }) };
    active_differ = (refl, tt);
    active_sealed = (tt, tt);
    job = record { bank = refl; size = refl; newer = omega arith; stored = tt };
  };
  verified = record {
    blob = record { octets = record { there_at_0 = refl; parameters = record { mode_at_1 = refl; mode_least = omega arith; mode_most = omega arith; mtu_at_2 = refl; mtu_least = omega arith; log_at_19 = refl; same_size = refl }; id_at_4 = refl; size_at_12 = refl; base_at_16 = refl; bank_at_18 = refl; zero_at_20 = refl }; rules = record { size_least = omega arith; size_most = omega arith; bank = omega arith; goes_with = (refl, omega arith, omega arith) } };
    note_octets = record { one_more = refl; spells = inl (record { kind_at_0 = refl; active_at_1_44 = (refl, refl); job_at_2 = record { phase_at_2 = refl; ttl_at_3 = refl; metadata_at_4 = refl }; index_at_45 = refl; zero_at_46 = refl }) };
    active_differ = (refl, tt);
    active_sealed = (tt, tt);
    job = record { bank = refl; size = refl; newer = omega arith; stored = (refl, refl) };
  };
  verified_log = record {
    blob = record { octets = record { there_at_0 = refl; parameters = record { mode_at_1 = refl; mode_least = omega arith; mode_most = omega arith; mtu_at_2 = refl; mtu_least = omega arith; log_at_19 = refl; same_size = refl }; id_at_4 = refl; size_at_12 = refl; base_at_16 = refl; bank_at_18 = refl; zero_at_20 = refl }; rules = record { size_least = omega arith; size_most = omega arith; bank = omega arith; goes_with = (refl, omega arith, omega arith) } };
    note_octets = record { one_more = refl; spells = inl (record { kind_at_0 = refl; active_at_1_44 = (refl, refl); job_at_2 = record { phase_at_2 = refl; ttl_at_3 = refl; metadata_at_4 = refl }; index_at_45 = refl; zero_at_46 = refl }) };
    active_differ = (refl, tt);
    active_sealed = (tt, tt);
    job = record { bank = refl; size = refl; newer = omega arith; stored = (refl, refl) };
  };
  refused = record {
    blob = record { octets = record { there_at_0 = refl; parameters = record { no_mode_at_1 = refl; no_mtu_at_2 = refl; no_log_at_19 = refl }; id_at_4 = refl; size_at_12 = refl; base_at_16 = refl; bank_at_18 = refl; zero_at_20 = refl }; rules = record { size_least = omega arith; size_most = omega arith; bank = omega arith; goes_with = (λ b. none_refused b) } };
    note_octets = record { one_more = refl; spells = inl (record { kind_at_0 = refl; active_at_1_44 = (refl, refl); job_at_2 = record { phase_at_2 = refl; ttl_at_3 = refl; metadata_at_4 = refl }; index_at_45 = refl; zero_at_46 = refl }) };
    active_differ = (refl, tt);
    active_sealed = (tt, tt);
    job = record { bank = refl; size = refl; newer = omega arith; stored = refl };
  };
  applied = record {
    blob = record { octets = record { there_at_0 = refl; parameters = record { mode_at_1 = refl; mode_least = omega arith; mode_most = omega arith; mtu_at_2 = refl; mtu_least = omega arith; log_at_19 = refl; same_size = refl }; id_at_4 = refl; size_at_12 = refl; base_at_16 = refl; bank_at_18 = refl; zero_at_20 = refl }; rules = record { size_least = omega arith; size_most = omega arith; bank = omega arith; goes_with = (refl, omega arith, omega arith) } };
    note_octets = record { one_more = refl; spells = inl (record { kind_at_0 = refl; active_at_1_44 = (refl, refl); job_at_2 = record { phase_at_2 = refl; ttl_at_3 = refl; metadata_at_4 = refl }; index_at_45 = refl; zero_at_46 = refl }) };
    active_differ = (refl, tt);
    active_sealed = (tt, tt);
    job = record { bank = refl; size = refl; newer = omega arith; stored = (refl, refl) };
  };
  old_job = record {
    blob = record { octets = record { there_at_0 = refl; parameters = record { no_mode_at_1 = refl; no_mtu_at_2 = refl; no_log_at_19 = refl }; id_at_4 = refl; size_at_12 = refl; base_at_16 = refl; bank_at_18 = refl; zero_at_20 = refl }; rules = record { size_least = omega arith; size_most = omega arith; bank = omega arith; goes_with = (λ b. none_old_job b) } };
    note_octets = record { one_more = refl; spells = inr (record { kind_at_0 = refl; active_at_1 = refl; job_at_2 = record { phase_at_2 = refl; ttl_at_3 = refl; metadata_at_4 = refl }; index_0 = refl; zero_at_44 = refl }) };
    active_differ = (refl, tt);
    active_sealed = (tt, tt);
    job = record { bank = refl; size = refl; newer = omega arith; stored = tt };
  };
  old_verified = record {
    blob = record { octets = record { there_at_0 = refl; parameters = record { mode_at_1 = refl; mode_least = omega arith; mode_most = omega arith; mtu_at_2 = refl; mtu_least = omega arith; log_at_19 = refl; same_size = refl }; id_at_4 = refl; size_at_12 = refl; base_at_16 = refl; bank_at_18 = refl; zero_at_20 = refl }; rules = record { size_least = omega arith; size_most = omega arith; bank = omega arith; goes_with = (refl, omega arith, omega arith) } };
    note_octets = record { one_more = refl; spells = inr (record { kind_at_0 = refl; active_at_1 = refl; job_at_2 = record { phase_at_2 = refl; ttl_at_3 = refl; metadata_at_4 = refl }; index_0 = refl; zero_at_44 = refl }) };
    active_differ = (refl, tt);
    active_sealed = (tt, tt);
    job = record { bank = refl; size = refl; newer = omega arith; stored = (refl, refl) };
  };
  pair = record {
    blob = record { octets = refl; rules = (λ b. none_pair b) };
    note_octets = record { one_more = refl; spells = inl (record { kind_at_0 = refl; active_at_1_44 = (refl, refl); job_at_2 = record { no_phase_at_2 = refl; no_metadata_at_4 = refl }; index_at_45 = refl; zero_at_46 = refl }) };
    active_differ = (refl, (refl, tt));
    active_sealed = (tt, (tt, tt));
    job = tt;
  };
  pair_first = record {
    blob = record { octets = record { there_at_0 = refl; parameters = record { no_mode_at_1 = refl; no_mtu_at_2 = refl; no_log_at_19 = refl }; id_at_4 = refl; size_at_12 = refl; base_at_16 = refl; bank_at_18 = refl; zero_at_20 = refl }; rules = record { size_least = omega arith; size_most = omega arith; bank = omega arith; goes_with = (λ b. none_pair_first b) } };
    note_octets = record { one_more = refl; spells = inl (record { kind_at_0 = refl; active_at_1_44 = (refl, refl); job_at_2 = record { phase_at_2 = refl; ttl_at_3 = refl; metadata_at_4 = refl }; index_at_45 = refl; zero_at_46 = refl }) };
    active_differ = (refl, (refl, tt));
    active_sealed = (tt, (tt, tt));
    job = record { bank = refl; size = refl; newer = omega arith; stored = tt };
  };
  pair_second = record {
    blob = record { octets = record { there_at_0 = refl; parameters = record { no_mode_at_1 = refl; no_mtu_at_2 = refl; no_log_at_19 = refl }; id_at_4 = refl; size_at_12 = refl; base_at_16 = refl; bank_at_18 = refl; zero_at_20 = refl }; rules = record { size_least = omega arith; size_most = omega arith; bank = omega arith; goes_with = (λ b. none_pair_second b) } };
    note_octets = record { one_more = refl; spells = inl (record { kind_at_0 = refl; active_at_1_44 = (refl, refl); job_at_2 = record { phase_at_2 = refl; ttl_at_3 = refl; metadata_at_4 = refl }; index_at_45 = refl; zero_at_46 = refl }) };
    active_differ = (refl, (refl, tt));
    active_sealed = (tt, (tt, tt));
    job = record { bank = refl; size = refl; newer = omega arith; stored = tt };
  };
}
