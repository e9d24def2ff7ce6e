-- The BLOB part that is written is read back.
use Rattle.std.proofs.Common.{◌≡◌, ℕ, ◌<◌, Option, Some, None, List, ◌∷◌, ◌++◌, length, refl, arith}
use Rattle.std.proofs.lemmas.List.{take_all}
use Rattle.byteorder.specs.Endian.{little_bytes}
use Rattle.byteorder.specs.Numbers.{little_number-reads_back}
use Rattle.mu_model_flash.specs.Bits.{AreOctets, part_of}
use Rattle.mu_model_record.specs.Record.{zeros}
use Rattle.mu_model_node.specs.declared.Parameters.{Parameters}
use Rattle.mu_model_represents.specs.BlobPart.{BlobJob, HasParameters, IsBlobPart, mode_of, mtu_of, log_of, blob_octets, ParametersFit, PartFits}
use Rattle.mu_model_represents.proofs.Octets.{octets_cons, octets_append, octets_zeros, octets_little, length_zeros}

-- the octets of a job with these in place of the parameters
abbrev job_octets : BlobJob → ℕ → ℕ → ℕ → List ℕ
job_octets j mode mtu log = 1 ∷ mode ∷ (little_bytes 2 mtu ++ (little_bytes 8 j.id ++ (little_bytes 4 j.size ++ (little_bytes 2 j.base ++ (j.bank ∷ log ∷ zeros 44)))))

parameters_written : (j : BlobJob) (p : Option Parameters) → ParametersFit j.size p → HasParameters j.size p (job_octets j (mode_of p) (mtu_of p) (log_of p))
parameters_written j None fits = record { no_mode_at_1 = refl; no_mtu_at_2 = refl; no_log_at_19 = refl }
parameters_written j (Some p) fits = record {
  mode_at_1 = refl;
  mode_least = fits.mode_least;
  mode_most = fits.mode_most;
  mtu_at_2 = little_number-reads_back 2 p.mtu (little_bytes 8 j.id ++ (little_bytes 4 j.size ++ (little_bytes 2 j.base ++ (j.bank ∷ p.log ∷ zeros 44)))) fits.mtu_most;
  mtu_least = fits.mtu_least;
  log_at_19 = refl;
  same_size = fits.same_size;
}

zeros_at_20 : (j : BlobJob) (mode mtu log : ℕ) → part_of (job_octets j mode mtu log) 20 44 ≡ zeros 44
unfolding part_of
zeros_at_20 j mode mtu log = take_all 44 (zeros 44) (omega (arith, length_zeros 44))

pub part_written : (part : Option BlobJob) → PartFits part → IsBlobPart part (blob_octets part)
part_written None fits = refl
part_written (Some j) fits =
    let log = log_of j.parameters in
    let after_base : List ℕ = j.bank ∷ log ∷ zeros 44 in
    record {
      there_at_0 = refl;
      parameters = parameters_written j j.parameters fits.parameters;
      id_at_4 = little_number-reads_back 8 j.id (little_bytes 4 j.size ++ (little_bytes 2 j.base ++ after_base)) fits.id;
      size_at_12 = little_number-reads_back 4 j.size (little_bytes 2 j.base ++ after_base) fits.size;
      base_at_16 = little_number-reads_back 2 j.base after_base fits.base;
      bank_at_18 = refl;
      zero_at_20 = zeros_at_20 j (mode_of j.parameters) (mtu_of j.parameters) log;
    }

pub length_part : (part : Option BlobJob) → length (blob_octets part) ≡ 64
length_part None = length_zeros 64
length_part (Some j) = omega (arith, length_zeros 44)

mode_small : (size : ℕ) (p : Option Parameters) → ParametersFit size p → mode_of p < 256
mode_small size None fits = omega arith
mode_small size (Some p) fits = omega (arith, fits.mode_most)

log_small : (size : ℕ) (p : Option Parameters) → ParametersFit size p → log_of p < 256
log_small size None fits = omega arith
log_small size (Some p) fits = fits.log_most

pub part_octets : (part : Option BlobJob) → PartFits part → AreOctets (blob_octets part)
part_octets None fits = octets_zeros 64
part_octets (Some j) fits =
    let p = j.parameters in
    let e = octets_cons j.bank (log_of p ∷ zeros 44) fits.bank (octets_cons (log_of p) (zeros 44) (log_small j.size p fits.parameters) (octets_zeros 44)) in
    let d = octets_append (little_bytes 2 j.base) (j.bank ∷ log_of p ∷ zeros 44) (octets_little 2 j.base) e in
    let c = octets_append (little_bytes 4 j.size) (little_bytes 2 j.base ++ (j.bank ∷ log_of p ∷ zeros 44)) (octets_little 4 j.size) d in
    let b = octets_append (little_bytes 8 j.id) (little_bytes 4 j.size ++ (little_bytes 2 j.base ++ (j.bank ∷ log_of p ∷ zeros 44))) (octets_little 8 j.id) c in
    let a = octets_append (little_bytes 2 (mtu_of p)) (little_bytes 8 j.id ++ (little_bytes 4 j.size ++ (little_bytes 2 j.base ++ (j.bank ∷ log_of p ∷ zeros 44)))) (octets_little 2 (mtu_of p)) b in
    octets_cons 1 (mode_of p ∷ (little_bytes 2 (mtu_of p) ++ (little_bytes 8 j.id ++ (little_bytes 4 j.size ++ (little_bytes 2 j.base ++ (j.bank ∷ log_of p ∷ zeros 44)))))) (omega arith)
    (octets_cons (mode_of p) (little_bytes 2 (mtu_of p) ++ (little_bytes 8 j.id ++ (little_bytes 4 j.size ++ (little_bytes 2 j.base ++ (j.bank ∷ log_of p ∷ zeros 44))))) (mode_small j.size p fits.parameters) a)
