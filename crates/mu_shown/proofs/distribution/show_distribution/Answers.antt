use Rattle.mu_shown.proofs.distribution.show_distribution.Goals as goal

pub returns-in-ReceiversAdd : goal.returns-in-ReceiversAdd
returns-in-ReceiversAdd g c = rw c.in-ReceiversAdd.is (c.put_line.ensures _ c.receivers_add.ensures)

pub returns-in-ReceiversStatus : goal.returns-in-ReceiversStatus
returns-in-ReceiversStatus g c = rw c.in-ReceiversStatus.is (c.put_line-in-ReceiversStatus.ensures _ c.receivers_status.ensures)

pub returns-in-ReceiversGet : goal.returns-in-ReceiversGet
returns-in-ReceiversGet g c = rw c.in-ReceiversGet.is (c.put_line-in-ReceiversGet.ensures _ c.receivers_get.ensures)

pub returns-in-ReceiversList : goal.returns-in-ReceiversList
returns-in-ReceiversList g c = rw c.in-ReceiversList.is (c.put_line-in-ReceiversList.ensures _ c.receivers_list.ensures)

pub returns-in-CapabilitiesStatus : goal.returns-in-CapabilitiesStatus
returns-in-CapabilitiesStatus g c = rw c.in-CapabilitiesStatus.is (c.put_line-in-CapabilitiesStatus.ensures _ c.capabilities_status.ensures)

pub returns-in-DistributionStart : goal.returns-in-DistributionStart
returns-in-DistributionStart g c = rw c.in-DistributionStart.is (c.put_line-in-DistributionStart.ensures _ c.distribution_start.ensures)

pub returns-in-DistributionStatus : goal.returns-in-DistributionStatus
returns-in-DistributionStatus g c = rw c.in-DistributionStatus.is (c.put_line-in-DistributionStatus.ensures _ c.distribution_status.ensures)

pub returns-in-UploadStart : goal.returns-in-UploadStart
returns-in-UploadStart g c = rw c.in-UploadStart.is (c.put_line-in-UploadStart.ensures _ c.upload_start.ensures)

pub returns-in-UploadStartOob : goal.returns-in-UploadStartOob
returns-in-UploadStartOob g c = rw c.in-UploadStartOob.is (c.put_line-in-UploadStartOob.ensures _ c.upload_start_oob.ensures)

pub returns-in-UploadStatus : goal.returns-in-UploadStatus
returns-in-UploadStatus g c = rw c.in-UploadStatus.is (c.put_line-in-UploadStatus.ensures _ c.upload_status.ensures)

pub returns-in-FirmwareGet : goal.returns-in-FirmwareGet
returns-in-FirmwareGet g c = rw c.in-FirmwareGet.is (c.put_line-in-FirmwareGet.ensures _ c.firmware_get.ensures)

pub returns-in-FirmwareGetByIndex : goal.returns-in-FirmwareGetByIndex
returns-in-FirmwareGetByIndex g c = rw c.in-FirmwareGetByIndex.is (c.put_line-in-FirmwareGetByIndex.ensures _ c.firmware_get_by_index.ensures)

pub returns-in-FirmwareDelete : goal.returns-in-FirmwareDelete
returns-in-FirmwareDelete g c = rw c.in-FirmwareDelete.is (c.put_line-in-FirmwareDelete.ensures _ c.firmware_delete.ensures)

pub returns-in-FirmwareStatus : goal.returns-in-FirmwareStatus
returns-in-FirmwareStatus g c = rw c.in-FirmwareStatus.is (c.put_line-in-FirmwareStatus.ensures _ c.firmware_status.ensures)

pub returns-in-FirmwareDeleteAll : goal.returns-in-FirmwareDeleteAll
returns-in-FirmwareDeleteAll g c = rw c.in-FirmwareDeleteAll.is c.put_bare-in-FirmwareDeleteAll.ensures
