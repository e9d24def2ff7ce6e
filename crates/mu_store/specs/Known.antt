-- The laws of the definitions below that the proofs of this crate use.
use Rattle.mu_model_flash.specs.Laws.{RangeLaws}
use Rattle.mu_model_record.specs.ChangeLaws.{NextRecordLaws, NextStateLaws, PlaceLaws, BlockLaws}
use Rattle.mu_model_record.specs.StoreLaws.{PresentRecordIsOne, RepresentedIsPresent, OneThingIsFound, RepresentedIsFound, FreeRangeMayChange}

pub record Known : Type 0 where
  pub ranges : RangeLaws
  pub records : NextRecordLaws
  pub states : NextStateLaws
  pub places : PlaceLaws
  pub blocks : BlockLaws
  pub present : PresentRecordIsOne
  pub represented : RepresentedIsPresent
  pub found : OneThingIsFound
  pub is_found : RepresentedIsFound
  pub free : FreeRangeMayChange
